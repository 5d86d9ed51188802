use Rattle.std.proofs.Common.{◌≡◌, ◌<◌, true, false, length, refl, sym, ap, subst, ◌∙◌, arith, get_or, inl, inr}
use mathlib.Core.Bool.{false≢true}
use Rattle.std.proofs.lemmas.Bool.{cases_eq}
use Rattle.std.proofs.lemmas.List.{get_or_read_under}
use Rattle.elasticlunr_trie.specs.Compact.{is_marked}
use Rattle.elasticlunr_trie_nodes.proofs.Gap.{value_at_place}
use Rattle.elasticlunr_trie.proofs.Marks.{is_marked_or, child_place}
use Rattle.elasticlunr_trie.proofs.inverted_index.compact.has_marked.Goals as goal

pub bounds-marks-k : goal.bounds-marks-k
bounds-marks-k c =
    let all = c.args.children.now in
    let i = c.loop-child.child-index in
    let e = get_or all i (0, 0) in
    let item = get_or_read_under all i (length all) c.child-item.result (0, 0) c.child-item.is c.loop-child-test.true
    refl in
    let node = c.node-k.ensures ∙ ap (λ p. p.1) item in
    let here = value_at_place all c.requires.sorted e.0 i (record { in_range = c.loop-child-test.true; has_key = refl })
    in
    subst (λ n. n < length c.args.marks.now) (sym node) (c.requires.in_range _ _ here)

pub returns-then-marks-k : goal.returns-then-marks-k
returns-then-marks-k c =
    let all = c.args.children.now in
    let marks = c.args.marks.now in
    let i = c.loop-child.child-index in
    let e = get_or all i (0, 0) in
    let item = get_or_read_under all i (length all) c.child-item.result (0, 0) c.child-item.is c.loop-child-test.true
    refl in
    let node = c.node-k.ensures ∙ ap (λ p. p.1) item in
    let here = value_at_place all c.requires.sorted e.0 i (record { in_range = c.loop-child-test.true; has_key = refl })
    in
    let there = subst (λ n. n < length marks) (sym node) (c.requires.in_range _ _ here) in (
      λ _. (
        e.0,
        e.1,
        here,
        subst (λ n. is_marked marks n ≡ true) node (is_marked_or marks c.node-k.result _ there
            ∙ c.if-marks-k.true),
      ),
      λ _. refl,
    )

pub loop-child-preserved : goal.loop-child-preserved
loop-child-preserved c q lt =
    let all = c.args.children.now in
    let marks = c.args.marks.now in
    let i = c.loop-child.child-index in
    let e = get_or all i (0, 0) in
    let item = get_or_read_under all i (length all) c.child-item.result (0, 0) c.child-item.is c.loop-child-test.true
    refl in
    let node = c.node-k.ensures ∙ ap (λ p. p.1) item in
    let here = value_at_place all c.requires.sorted e.0 i (record { in_range = c.loop-child-test.true; has_key = refl })
    in
    let there = subst (λ n. n < length marks) (sym node) (c.requires.in_range _ _ here) in
    let unmarked = subst (λ n. is_marked marks n ≡ false) node (is_marked_or marks c.node-k.result _ there
    ∙ c.if-marks-k.false) in
    elim (cases_eq q i) [
      | inl same ↦ ap (λ x. is_marked marks (get_or all x (0, 0)).1) same ∙ unmarked
      | inr apart ↦ c.loop-child.invariant q (omega arith)
    ]

pub returns : goal.returns
returns c = (
  λ h. absurd (false≢true h),
  λ some.
      let at = child_place c.args.children.now some.0 some.1 some.2 in
      absurd (false≢true (sym (c.loop-child.invariant at.0 (omega (arith, at.1, c.loop-child-test.false)))
      ∙ ap (is_marked c.args.marks.now) at.2 ∙ some.3)),
)
