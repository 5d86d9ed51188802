use Rattle.std.proofs.Common.{◌≡◌, ◌<◌, ◌≤◌, [], get_or, true, rules, arith, subst, ◌∙◌, ◌⊎◌, inl, inr}
use Rattle.std.specs.Prelude.{nat_eq}
use Rattle.std.specs.List.{starts_with}
use Rattle.std.proofs.lemmas.Bool.{cases_lt}
use Rattle.elasticlunr_error.specs.Text.{bytes_of}
use Rattle.elasticlunr_piece_head.proofs.Splitting.{begun_at}
use Rattle.elasticlunr_piece_head.proofs.choice.end_of_longer.Goals as goal

pub loop-place-preserved : goal.loop-place-preserved
loop-place-preserved c k low high = by (cases_lt k c.loop-place.place)
  where
    begins : c.begins_with.result ≡ true
    begins = search rules

    by : (k < c.loop-place.place) ⊎ (c.loop-place.place ≤ k)
        → starts_with nat_eq (get_or (bytes_of c.args.texts.now) k []) c.args.beginning.now ≡ true
    by (inl lt) = c.loop-place.invariant k low lt
    by (inr ge) = let here : c.loop-place.place ≡ k = omega arith in
        subst (λ n. starts_with nat_eq (get_or (bytes_of c.args.texts.now) n []) c.args.beginning.now ≡ true) here
        (begun_at c.args.texts.now c.args.beginning.now c.as_str.result.now c.loop-place.place c.index-texts-place.result
        c.begins_with.result c.loop-place-test.true c.index-texts-place.is c.as_str.ensures.value c.begins_with.ensures
        ∙ begins)
