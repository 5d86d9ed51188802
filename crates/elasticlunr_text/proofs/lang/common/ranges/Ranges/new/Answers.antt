use Rattle.std.proofs.Common.{rules, ◌∙◌, ap}
use Rattle.std.proofs.lemmas.List.Sorted.{IsNonDecreasingBy-from_sort_by_key}
use Rattle.elasticlunr_text.proofs.JoinLemmas.{Sorted-sorted, Joining-start, Joining-touching, Joining-gap, Joining-end}
use Rattle.elasticlunr_text.proofs.lang.common.ranges.Ranges.new.Goals as goal
use Rattle.elasticlunr_text.proofs.lang.common.ranges.Ranges.new.Goals.{then-range-last, else-range-last+in_ok-push}

pub loop-range-init : goal.loop-range-init
loop-range-init c =
    Joining-start c.in-Some.first.now c.in-Some.others.now _
    (Sorted-sorted c.args.ranges.items _ _ c.in-Some.others.now c.in-Some.first.now c.requires
    c.sort_unstable_by_key.ensures.permutation
    (IsNonDecreasingBy-from_sort_by_key (λ r. r.0) _ c.sort_unstable_by_key.ensures.sorted (λ a r q k. search rules))
    c.as_slice-sorted.ensures.value c.in-Some.ensures.cases.0)
    c.new-joined.ensures.items

pub loop-range-preserved : goal.loop-range-preserved
loop-range-preserved c =
    let sorted = Sorted-sorted c.args.ranges.items _ _ c.in-Some.others.now c.in-Some.first.now c.requires
    c.sort_unstable_by_key.ensures.permutation
    (IsNonDecreasingBy-from_sort_by_key (λ r. r.0) _ c.sort_unstable_by_key.ensures.sorted (λ a r q k. search rules))
    c.as_slice-sorted.ensures.value c.in-Some.ensures.cases.0 in
    elim c.if-range-last.branch [
      | then-range-last w ↦
          rw w.joined-is (Joining-touching c.in-Some.first.now c.in-Some.others.now _ c.loop-range.last
          c.loop-range.range-index (0, 0) sorted c.loop-range.invariant c.loop-range-test.true
          c.if-range-last.last w.if-range-last.true (w.last-is
          ∙ ap (λ m. (c.loop-range.last.0, m)) w.max.ensures))
      | else-range-last+in_ok-push w ↦
          rw (w.last-is, w.joined-is) (Joining-gap c.in-Some.first.now c.in-Some.others.now _ c.loop-range.last
          c.loop-range.range-index (0, 0) sorted c.loop-range.invariant c.loop-range-test.true _
          w.if-range-last.false w.in_ok-push.ensures.items)
    ]

pub returns : goal.returns
returns c =
    Joining-end c.args.ranges.items _ _ c.in-Some.others.now _ _ c.in-Some.first.now _ _
    c.sort_unstable_by_key.ensures.permutation c.as_slice-sorted.ensures.value c.in-Some.ensures.cases.0
    c.loop-range-test.false
    c.loop-range.invariant c.in_ok-push-2.ensures.items
