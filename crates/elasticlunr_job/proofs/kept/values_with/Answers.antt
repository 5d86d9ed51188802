use Rattle.std.proofs.Common.{◌≤◌, ◌+◌, ◌∙◌, IfSome, length, map, option_map, refl, slice_get, subst, sym, ap}
use Rattle.std.proofs.Common.{drop, take, unwrap_or}
use Rattle.std.proofs.lemmas.Option.{slice_get-map}
use Rattle.elasticlunr.specs.Fields.{borrowed}
use Rattle.elasticlunr_text.specs.Text.{texts_of, word_texts}
use Rattle.elasticlunr_job.specs.Given.{AreGiven, IsSourceOf}
use Rattle.elasticlunr_job.proofs.KeptWords.{enough, given_more, its_own, next_start}
use Rattle.std.proofs.Common.{arith, rules}
use Rattle.std.proofs.lemmas.Grind.{common_steps}
use Rattle.elasticlunr_job.proofs.kept.values_with.Goals as goal

pub source_at-requires : goal.source_at-requires
source_at-requires c = subst (λ o. IfSome o (λ n. c.loop-i.start + n ≤ length c.args.words.now))
    (sym c.count_at-count.ensures)
    (enough c.args.words.now c.args.kept.now c.requires c.loop-i.i c.loop-i.start c.loop-i.invariant.after
    (slice_get c.args.kept.now c.loop-i.i) refl)

pub end_of-start-requires : goal.end_of-start-requires
end_of-start-requires c = subst (λ o. IfSome o (λ n. c.loop-i.start + n ≤ length c.args.words.now))
    (sym c.count_at-count.ensures)
    (enough c.args.words.now c.args.kept.now c.requires c.loop-i.i c.loop-i.start c.loop-i.invariant.after
    (slice_get c.args.kept.now c.loop-i.i) refl)

pub loop-i-preserved : goal.loop-i-preserved
loop-i-preserved c =
    let words = c.args.words.now in
    let kept = c.args.kept.now in
    let i = c.loop-i.i in
    let start = c.loop-i.start in
    let lists = map (λ list. texts_of list.items) kept in
    let after = c.loop-i.invariant.after in
    let here = slice_get kept i in
    let own = ap (option_map (λ n. take n (drop start (word_texts words)))) c.count_at-count.ensures
    ∙ its_own words kept c.requires i start after here refl
    ∙ sym (slice_get-map (λ list. texts_of list.items) kept i) in
    record {
      so_far = subst (AreGiven (borrowed (take (i + 1) c.args.values.now)) lists) (sym c.in_ok-push.ensures.items)
          (given_more c.args.values.now i _ lists c.loop-i.given.items _ c.loop-i-test.true c.loop-i.invariant.so_far
          refl (subst (λ ws. IsSourceOf ws c.source_at.result) own c.source_at.ensures));
      after = c.end_of-start.ensures ∙ ap (λ o. start + unwrap_or o 0) c.count_at-count.ensures
          ∙ next_start words kept c.requires i start after here refl;
    }

pub loop-i-init : goal.loop-i-init
loop-i-init c = search rules

pub returns : goal.returns
returns c = grind (arith, common_steps)
