use Rattle.std.proofs.Common.{◌≡◌, ◌-◌, ℕ, inl, inr, true≢false, arith, get_or, length, refl, sym, ap, ◌∙◌, subst, ◌<◌}
use mathlib.Core.Bool.{false≢true}
use Rattle.std.proofs.lemmas.Bool.{cases_eq, eqb-true, eq-eqb}
use Rattle.std.proofs.lemmas.List.{get_or_read_under}
use Rattle.elasticlunr_trie.specs.Same.{look_from}
use Rattle.elasticlunr_trie_nodes.specs.declared.nodes.Place.TheVariants.{At}
use Rattle.elasticlunr_trie.proofs.Alike.{AreAlike, right_count, right_key, right_postings, right_below, all_right}
use Rattle.elasticlunr_trie.proofs.Alike.{in_nodes, in_nodes2, same_from, moved_child, moved_below}
use Rattle.elasticlunr_trie.proofs.inverted_index.same.+same_below.Goals as goal

pub returns-then-children-children2 : goal.returns-then-children-children2
returns-then-children-children2 t c = (
  λ h. absurd (false≢true h),
  λ same. absurd (c.if-children-children2.true (right_count c.args.names.now c.args.root.now c.args.nodes.now
      c.requires.trie c.loop-children.here c.args.names2.now c.args.root2.now c.args.nodes2.now c.requires.trie2
      c.loop-children.here2 c.children_at-children.result.now c.children_at-children2.result.now
      c.children_at-children.ensures c.children_at-children2.ensures (c.loop-children.invariant.answer.0 same))),
)

pub returns-then-is_empty : goal.returns-then-is_empty
returns-then-is_empty t c =
    let none : length c.children_at-children.result.now ≡ 0 = eqb-true _ 0 (sym c.if-is_empty.ensures) in (
      λ _. c.loop-children.invariant.answer.1 (all_right c.args.names.now c.args.root.now c.args.nodes.now
          c.requires.trie c.loop-children.here c.args.names2.now c.args.root2.now c.args.nodes2.now c.requires.trie2
          c.loop-children.here2 c.children_at-children.result.now c.children_at-children2.result.now
          c.children_at-children.ensures c.children_at-children2.ensures c.if-children-children2.false
          (λ x h. absurd (omega arith))),
      λ _. refl,
    )

pub same_child-requires-clause-in_range : goal.same_child-requires-clause-in_range
same_child-requires-clause-in_range t c =
    let es = c.children_at-children.result.now in
    let low : c.loop-i.i < length es = omega (arith, c.loop-i-test.true) in
    let item = get_or_read_under es c.loop-i.i (length es) c.index-children-i.result (0, 0) c.index-children-i.is low
    refl in
    subst (λ (e : ℕ × ℕ). e.1 < length c.args.nodes.now) (sym item)
    (in_nodes c.args.names.now c.args.root.now c.args.nodes.now c.requires.trie c.loop-children.here
    c.args.names2.now c.args.root2.now c.args.nodes2.now c.requires.trie2 c.loop-children.here2
    c.children_at-children.result.now c.children_at-children2.result.now c.children_at-children.ensures
    c.children_at-children2.ensures c.loop-i.i low).1

pub same_child-requires-clause-in_range2 : goal.same_child-requires-clause-in_range2
same_child-requires-clause-in_range2 t c =
    let es2 = c.children_at-children2.result.now in
    let low2 : c.loop-i.i < length es2 = omega (arith, c.loop-i-test.true, c.if-children-children2.false) in
    let item2 = get_or_read_under es2 c.loop-i.i (length es2) c.index-children2-i.result (0, 0) c.index-children2-i.is
    low2 refl in
    subst (λ (e : ℕ × ℕ). e.1 < length c.args.nodes2.now) (sym item2)
    (in_nodes2 c.args.names.now c.args.root.now c.args.nodes.now c.requires.trie c.loop-children.here
    c.args.names2.now c.args.root2.now c.args.nodes2.now c.requires.trie2 c.loop-children.here2
    c.children_at-children.result.now c.children_at-children2.result.now c.children_at-children.ensures
    c.children_at-children2.ensures c.loop-i.i low2)

pub returns-then-not-same_child : goal.returns-then-not-same_child
returns-then-not-same_child t c =
    let es = c.children_at-children.result.now in
    let es2 = c.children_at-children2.result.now in
    let low : c.loop-i.i < length es = omega (arith, c.loop-i-test.true) in
    let low2 : c.loop-i.i < length es2 = omega (arith, c.loop-i-test.true, c.if-children-children2.false) in
    let item = get_or_read_under es c.loop-i.i (length es) c.index-children-i.result (0, 0) c.index-children-i.is low
    refl in
    let item2 = get_or_read_under es2 c.loop-i.i (length es2) c.index-children2-i.result (0, 0) c.index-children2-i.is
    low2 refl in (
      λ h. absurd (false≢true h),
      λ same.
          let held = c.loop-children.invariant.answer.0 same in
          absurd (true≢false (sym (c.same_child.ensures.1
          (moved_child c.args.names.now c.args.nodes.now c.args.names2.now c.args.nodes2.now _ _ _ _ (sym item)
          (sym item2) (
            right_key c.args.names.now c.args.root.now c.args.nodes.now c.requires.trie
                c.loop-children.here c.args.names2.now c.args.root2.now c.args.nodes2.now c.requires.trie2
                c.loop-children.here2 c.children_at-children.result.now c.children_at-children2.result.now
                c.children_at-children.ensures c.children_at-children2.ensures c.loop-i.i low held,
            right_postings
                c.args.names.now c.args.root.now c.args.nodes.now c.requires.trie c.loop-children.here c.args.names2.now
                c.args.root2.now c.args.nodes2.now c.requires.trie2 c.loop-children.here2
                c.children_at-children.result.now c.children_at-children2.result.now c.children_at-children.ensures
                c.children_at-children2.ensures c.loop-i.i low held,
          ))) ∙ c.if-not-same_child.true)),
    )

pub same_below-requires : goal.same_below-requires
same_below-requires t c =
    let es = c.children_at-children.result.now in
    let low : c.loop-i.i < length es = omega (arith, c.loop-i-test.true) in
    let item = get_or_read_under es c.loop-i.i (length es) c.index-children-i.result (0, 0) c.index-children-i.is low
    refl in
    let node : c.node.result ≡ (get_or es c.loop-i.i (0, 0)).1 = c.node.ensures ∙ ap (λ e. e.1) item in
    let inside = in_nodes c.args.names.now c.args.root.now c.args.nodes.now c.requires.trie c.loop-children.here
    c.args.names2.now c.args.root2.now c.args.nodes2.now c.requires.trie2 c.loop-children.here2
    c.children_at-children.result.now c.children_at-children2.result.now c.children_at-children.ensures
    c.children_at-children2.ensures c.loop-i.i low in (
      omega (arith, node, c.decreases, c.loop-children.invariant.deeper, inside.0, inside.1),
      (
        c.requires.trie,
        (
          c.requires.names,
          (
            c.requires.numbered,
            (c.requires.trie2, (c.requires.names2, c.requires.numbered2)),
          ),
        ),
      ),
    )

pub returns-then-not-same_below : goal.returns-then-not-same_below
returns-then-not-same_below t c =
    let es = c.children_at-children.result.now in
    let es2 = c.children_at-children2.result.now in
    let low : c.loop-i.i < length es = omega (arith, c.loop-i-test.true) in
    let low2 : c.loop-i.i < length es2 = omega (arith, c.loop-i-test.true, c.if-children-children2.false) in
    let item = get_or_read_under es c.loop-i.i (length es) c.index-children-i.result (0, 0) c.index-children-i.is low
    refl in
    let item2 = get_or_read_under es2 c.loop-i.i (length es2) c.index-children2-i.result (0, 0) c.index-children2-i.is
    low2 refl in
    let node = c.node.ensures ∙ ap (λ e. e.1) item in
    let node2 = c.node-in-loop-i.ensures ∙ ap (λ e. e.1) item2 in (
      λ h. absurd (false≢true h),
      λ same.
          let held = c.loop-children.invariant.answer.0 same in
          absurd (true≢false (sym (c.same_below.ensures.1 (moved_below c.args.names.now c.args.root.now c.args.nodes.now
          c.args.names2.now c.args.root2.now c.args.nodes2.now _ _ _ _ (sym node) (sym node2)
          (right_below c.args.names.now c.args.root.now c.args.nodes.now c.requires.trie c.loop-children.here
          c.args.names2.now c.args.root2.now c.args.nodes2.now c.requires.trie2 c.loop-children.here2
          c.children_at-children.result.now c.children_at-children2.result.now c.children_at-children.ensures
          c.children_at-children2.ensures c.loop-i.i low held))) ∙ c.if-not-same_below.true)),
    )

pub loop-i-preserved : goal.loop-i-preserved
loop-i-preserved t c x below_next =
    let es = c.children_at-children.result.now in
    let es2 = c.children_at-children2.result.now in
    let low : c.loop-i.i < length es = omega (arith, c.loop-i-test.true) in
    let low2 : c.loop-i.i < length es2 = omega (arith, c.loop-i-test.true, c.if-children-children2.false) in
    let item = get_or_read_under es c.loop-i.i (length es) c.index-children-i.result (0, 0) c.index-children-i.is low
    refl in
    let item2 = get_or_read_under es2 c.loop-i.i (length es2) c.index-children2-i.result (0, 0) c.index-children2-i.is
    low2 refl in
    let node = c.node.ensures ∙ ap (λ e. e.1) item in
    let node2 = c.node-in-loop-i.ensures ∙ ap (λ e. e.1) item2 in
    let f = λ (k : ℕ). look_from c.args.names.now c.args.root.now c.args.nodes.now (At k) in
    let g = λ (j : ℕ). look_from c.args.names2.now c.args.root2.now c.args.nodes2.now (At j) in
    let one = moved_child c.args.names.now c.args.nodes.now c.args.names2.now c.args.nodes2.now _ _ _ _ item item2
    (c.same_child.ensures.0 c.if-not-same_child.false) in
    let below = moved_below c.args.names.now c.args.root.now c.args.nodes.now c.args.names2.now c.args.root2.now
    c.args.nodes2.now _ _ _ _ node node2 (c.same_below.ensures.0 c.if-not-same_below.false) in
    elim (cases_eq x c.loop-i.i) [
      | inl same ↦ subst (λ y. AreAlike f g (get_or es y (0, 0)) (get_or es2 y (0, 0))) (sym same) (
        one.0,
        same_from c.args.names.now c.args.root.now c.args.nodes.now (At (get_or es c.loop-i.i (0, 0)).1)
            c.args.names2.now c.args.root2.now c.args.nodes2.now (At (get_or es2 c.loop-i.i (0, 0)).1) one.1 below,
      )
      | inr other ↦ c.loop-i.invariant x (omega arith)
    ]

pub same_child-requires-in-loop-children-clause-in_range : goal.same_child-requires-in-loop-children-clause-in_range
same_child-requires-in-loop-children-clause-in_range t c =
    let low : length c.children_at-children.result.now - 1 < length c.children_at-children.result.now =
    elim (cases_eq (length c.children_at-children.result.now) 0) [
      | inl none ↦ absurd (false≢true (c.if-is_empty.ensures ∙ eq-eqb (length c.children_at-children.result.now) 0
          none))
      | inr some ↦ omega arith
    ] in
    let item = get_or_read_under c.children_at-children.result.now (length c.children_at-children.result.now - 1)
    (length c.children_at-children.result.now) c.index-children-last.result (0, 0) c.index-children-last.is low
    refl in
    subst (λ (e : ℕ × ℕ). e.1 < length c.args.nodes.now) (sym item)
    (in_nodes c.args.names.now c.args.root.now c.args.nodes.now c.requires.trie c.loop-children.here
    c.args.names2.now c.args.root2.now c.args.nodes2.now c.requires.trie2 c.loop-children.here2
    c.children_at-children.result.now c.children_at-children2.result.now c.children_at-children.ensures
    c.children_at-children2.ensures (length c.children_at-children.result.now - 1) low).1

pub same_child-requires-in-loop-children-clause-in_range2 : goal.same_child-requires-in-loop-children-clause-in_range2
same_child-requires-in-loop-children-clause-in_range2 t c =
    let es = c.children_at-children.result.now in
    let es2 = c.children_at-children2.result.now in
    let last = length es - 1 in
    let low : last < length es = elim (cases_eq (length es) 0) [
      | inl none ↦ absurd (false≢true (c.if-is_empty.ensures ∙ eq-eqb (length es) 0 none))
      | inr some ↦
          omega arith
    ] in
    let low2 : last < length es2 = omega (arith, low, c.if-children-children2.false) in
    let item2 = get_or_read_under es2 last (length es2) c.index-children2-last.result (0, 0) c.index-children2-last.is
    low2 refl in
    subst (λ (e : ℕ × ℕ). e.1 < length c.args.nodes2.now) (sym item2)
    (in_nodes2 c.args.names.now c.args.root.now c.args.nodes.now c.requires.trie c.loop-children.here
    c.args.names2.now c.args.root2.now c.args.nodes2.now c.requires.trie2 c.loop-children.here2
    c.children_at-children.result.now c.children_at-children2.result.now c.children_at-children.ensures
    c.children_at-children2.ensures last low2)

pub returns-then-not-same_child-2 : goal.returns-then-not-same_child-2
returns-then-not-same_child-2 t c =
    let es = c.children_at-children.result.now in
    let es2 = c.children_at-children2.result.now in
    let last = length es - 1 in
    let low : last < length es = elim (cases_eq (length es) 0) [
      | inl none ↦ absurd (false≢true (c.if-is_empty.ensures ∙ eq-eqb (length es) 0 none))
      | inr some ↦
          omega arith
    ] in
    let low2 : last < length es2 = omega (arith, low, c.if-children-children2.false) in
    let item = get_or_read_under es last (length es) c.index-children-last.result (0, 0) c.index-children-last.is low
    refl in
    let item2 = get_or_read_under es2 last (length es2) c.index-children2-last.result (0, 0) c.index-children2-last.is
    low2 refl in (
      λ h. absurd (false≢true h),
      λ same.
          let held = c.loop-children.invariant.answer.0 same in
          absurd (true≢false (sym (c.same_child-in-loop-children.ensures.1
          (moved_child c.args.names.now c.args.nodes.now c.args.names2.now c.args.nodes2.now _ _ _ _ (sym item)
          (sym item2) (
            right_key c.args.names.now c.args.root.now c.args.nodes.now c.requires.trie
                c.loop-children.here c.args.names2.now c.args.root2.now c.args.nodes2.now c.requires.trie2
                c.loop-children.here2 c.children_at-children.result.now c.children_at-children2.result.now
                c.children_at-children.ensures c.children_at-children2.ensures last low held,
            right_postings
                c.args.names.now c.args.root.now c.args.nodes.now c.requires.trie c.loop-children.here c.args.names2.now
                c.args.root2.now c.args.nodes2.now c.requires.trie2 c.loop-children.here2
                c.children_at-children.result.now c.children_at-children2.result.now c.children_at-children.ensures
                c.children_at-children2.ensures last low held,
          ))) ∙ c.if-not-same_child-2.true)),
    )

pub loop-children-smaller : goal.loop-children-smaller
loop-children-smaller t c =
    let low : length c.children_at-children.result.now - 1 < length c.children_at-children.result.now =
    elim (cases_eq (length c.children_at-children.result.now) 0) [
      | inl none ↦ absurd (false≢true (c.if-is_empty.ensures ∙ eq-eqb (length c.children_at-children.result.now) 0
          none))
      | inr some ↦ omega arith
    ] in
    let item = get_or_read_under c.children_at-children.result.now (length c.children_at-children.result.now - 1)
    (length c.children_at-children.result.now) c.index-children-last.result (0, 0) c.index-children-last.is low
    refl in
    let node : c.node-in-loop-children.result
    ≡ (get_or c.children_at-children.result.now (length c.children_at-children.result.now - 1) (0, 0)).1 =
    c.node-in-loop-children.ensures ∙ ap (λ e. e.1) item in
    let inside = in_nodes c.args.names.now c.args.root.now c.args.nodes.now c.requires.trie c.loop-children.here
    c.args.names2.now c.args.root2.now c.args.nodes2.now c.requires.trie2 c.loop-children.here2
    c.children_at-children.result.now c.children_at-children2.result.now c.children_at-children.ensures
    c.children_at-children2.ensures (length c.children_at-children.result.now - 1) low in
    omega (arith, node, inside.0, inside.1)

pub loop-children-preserved : goal.loop-children-preserved
loop-children-preserved t c =
    let es = c.children_at-children.result.now in
    let es2 = c.children_at-children2.result.now in
    let last = length es - 1 in
    let low : last < length es = elim (cases_eq (length es) 0) [
      | inl none ↦ absurd (false≢true (c.if-is_empty.ensures ∙ eq-eqb (length es) 0 none))
      | inr some ↦
          omega arith
    ] in
    let low2 : last < length es2 = omega (arith, low, c.if-children-children2.false) in
    let item = get_or_read_under es last (length es) c.index-children-last.result (0, 0) c.index-children-last.is low
    refl in
    let item2 = get_or_read_under es2 last (length es2) c.index-children2-last.result (0, 0) c.index-children2-last.is
    low2 refl in
    let node : c.node-in-loop-children.result ≡ (get_or es last (0, 0)).1 = c.node-in-loop-children.ensures
    ∙ ap (λ e. e.1) item in
    let node2 = c.node-in-loop-children-2.ensures ∙ ap (λ e. e.1) item2 in
    let inside = in_nodes c.args.names.now c.args.root.now c.args.nodes.now c.requires.trie c.loop-children.here
    c.args.names2.now c.args.root2.now c.args.nodes2.now c.requires.trie2 c.loop-children.here2
    c.children_at-children.result.now c.children_at-children2.result.now c.children_at-children.ensures
    c.children_at-children2.ensures last low in
    let f = λ (k : ℕ). look_from c.args.names.now c.args.root.now c.args.nodes.now (At k) in
    let g = λ (j : ℕ). look_from c.args.names2.now c.args.root2.now c.args.nodes2.now (At j) in
    let one = moved_child c.args.names.now c.args.nodes.now c.args.names2.now c.args.nodes2.now _ _ _ _ item item2
    (c.same_child-in-loop-children.ensures.0 c.if-not-same_child-2.false) in
    record {
      deeper = omega (arith, node, c.loop-children.invariant.deeper, inside.0);
      answer = (
        λ same. moved_below c.args.names.now c.args.root.now c.args.nodes.now c.args.names2.now c.args.root2.now
            c.args.nodes2.now _ _ _ _ (sym node) (sym node2)
            (right_below c.args.names.now c.args.root.now c.args.nodes.now c.requires.trie c.loop-children.here
            c.args.names2.now c.args.root2.now c.args.nodes2.now c.requires.trie2 c.loop-children.here2
            c.children_at-children.result.now c.children_at-children2.result.now c.children_at-children.ensures
            c.children_at-children2.ensures last low (c.loop-children.invariant.answer.0 same)),
        λ leads. let below = moved_below c.args.names.now c.args.root.now c.args.nodes.now c.args.names2.now
            c.args.root2.now c.args.nodes2.now _ _ _ _ node node2 leads in c.loop-children.invariant.answer.1
            (all_right c.args.names.now c.args.root.now c.args.nodes.now c.requires.trie c.loop-children.here
            c.args.names2.now c.args.root2.now c.args.nodes2.now c.requires.trie2 c.loop-children.here2
            c.children_at-children.result.now c.children_at-children2.result.now c.children_at-children.ensures
            c.children_at-children2.ensures c.if-children-children2.false (λ x h. elim (cases_eq x last) [
              | inl same ↦ subst (λ y. AreAlike f g (get_or es y (0, 0)) (get_or es2 y (0, 0))) (sym same) (
                one.0,
                same_from c.args.names.now c.args.root.now c.args.nodes.now (At (get_or es last (0, 0)).1)
                    c.args.names2.now c.args.root2.now c.args.nodes2.now (At (get_or es2 last (0, 0)).1) one.1 below,
              )
              | inr other ↦ c.loop-i.invariant x (omega (arith, c.loop-i-test.false))
            ])),
      );
    }
