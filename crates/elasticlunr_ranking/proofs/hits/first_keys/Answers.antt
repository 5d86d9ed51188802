use Rattle.std.proofs.Common.{heap_items, subst}
use Rattle.std.proofs.lemmas.List.{take_all}
use Rattle.elasticlunr_ranking.specs.Held.{told}
use Rattle.elasticlunr_ranking.proofs.Keeping.{IsSplit, first_of_all, split_next}
use Rattle.elasticlunr_ranking.proofs.hits.first_keys.Goals as goal

pub loop-reference-preserved : goal.loop-reference-preserved
loop-reference-preserved c =
    let kept = c.in_ok-keep_first.ensures in (
      kept.heap,
      split_next c.args.limit c.args.scores.now c.loop-reference.reference-index _ c.loop-reference-test.true
          c.key_of.result c.key_of.ensures.told c.key_of.ensures.key (heap_items c.loop-reference.kept)
          (heap_items c.keep_first.new.kept) c.loop-reference.invariant.1 kept.keeps,
    )

pub returns : goal.returns
returns c =
    let kept = heap_items c.loop-reference.kept in
    let split = c.loop-reference.invariant.1 in
    let last = c.into_sorted_vec.ensures in
    first_of_all c.args.limit (told c.args.scores.now) kept split.0
    (subst (λ l. IsSplit c.args.limit (told l) kept split.0)
    (take_all c.loop-reference.reference-index c.args.scores.now c.loop-reference-test.false) split.1)
    c.into_sorted_vec.result.items last.permutation (last.sorted c.loop-reference.invariant.0)
