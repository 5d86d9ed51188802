use Rattle.std.proofs.Common.{◌<◌, ℕ, ◌∷◌, [], ◌++◌, length, map, slice_index, sym, ap, subst, ◌∙◌, arith, take_all}
use Rattle.std.specs.FinMap.{entries, len-entries}
use Rattle.std.proofs.lemmas.List.{map-append, take_more}
use Rattle.elasticlunr_trie_nodes.proofs.docs.with_ranks.Goals as goal

pub bounds-ranks-number : goal.bounds-ranks-number
bounds-ranks-number c =
    subst (λ n. n < length c.args.ranks.now) (sym (ap (λ e. e.0) c.at-number.ensures))
    (c.requires c.loop-i.i (omega (arith, c.loop-i-test.true, c.len-count.ensures, len-entries c.args.postings.now)))

pub loop-i-preserved : goal.loop-i-preserved
loop-i-preserved c =
    let pairs = entries c.args.postings.now in
    let ranked : ℕ × ℕ → ℕ × ℕ × ℕ = λ p. (slice_index c.args.ranks.now p.0, p.0, p.1) in
    let below : c.loop-i.i < length pairs = omega (
      arith,
      c.loop-i-test.true,
      c.len-count.ensures,
      len-entries c.args.postings.now,
    ) in
    c.in_ok-push.ensures.items
    ∙ (λ j. c.loop-i.invariant j ++ ranked (c.at-number.ensures j) ∷ [])
    ∙ sym (ap (map ranked) (take_more pairs c.loop-i.i (0, 0) below) ∙ map-append ranked _ _)

pub returns : goal.returns
returns c =
    c.loop-i.invariant ∙ ap (map (λ p. (slice_index c.args.ranks.now p.0, p.0, p.1)))
    (take_all c.loop-i.i (entries c.args.postings.now) (omega (
      arith,
      c.loop-i-test.false,
      c.len-count.ensures,
      len-entries c.args.postings.now,
    )))
