use Rattle.std.proofs.Common.{◌≡◌, ◌<◌, true, false, [], ◌∷◌, Some, length, refl, sym, ap, subst, ◌∙◌, ◌++◌, take}
use Rattle.std.proofs.Common.{append-nil, arith, get_or}
use Rattle.std.proofs.lemmas.List.{take_more, get_or_read_under}
use Rattle.elasticlunr_trie.specs.Compact.{is_marked, kept_children, new_number}
use Rattle.elasticlunr_trie_nodes.proofs.Places.{get_there}
use Rattle.elasticlunr_trie_nodes.proofs.Gap.{value_at_place}
use Rattle.elasticlunr_trie.proofs.Marks.{is_marked_or, kept_push, kept_one, kept_none}
use Rattle.elasticlunr_trie.proofs.inverted_index.compact.keep_children.Goals as goal

pub bounds-marks-k : goal.bounds-marks-k
bounds-marks-k c =
    let all = c.args.children.now in
    let i = c.loop-child.child-index in
    let e = get_or all i (0, 0) in
    let item = get_or_read_under all i (length all) c.child-item.result (0, 0) c.child-item.is c.loop-child-test.true
    refl in
    let node = c.node-k.ensures ∙ ap (λ p. p.1) item in
    let here = value_at_place all c.requires.sorted e.0 i (record { in_range = c.loop-child-test.true; has_key = refl })
    in
    subst (λ n. n < length c.args.marks.now) (sym node) (c.requires.in_range _ _ here)

pub loop-child-preserved-then-not-marks-k : goal.loop-child-preserved-then-not-marks-k
loop-child-preserved-then-not-marks-k c =
    let all = c.args.children.now in
    let marks = c.args.marks.now in
    let i = c.loop-child.child-index in
    let e = get_or all i (0, 0) in
    let item = get_or_read_under all i (length all) c.child-item.result (0, 0) c.child-item.is c.loop-child-test.true
    refl in
    let node = c.node-k.ensures ∙ ap (λ p. p.1) item in
    let here = value_at_place all c.requires.sorted e.0 i (record { in_range = c.loop-child-test.true; has_key = refl })
    in
    let there = subst (λ n. n < length marks) (sym node) (c.requires.in_range _ _ here) in
    let unmarked = subst (λ n. is_marked marks n ≡ false) node (is_marked_or marks c.node-k.result _ there
    ∙ c.if-not-marks-k.true) in
    let done = take i all in
    c.loop-child.invariant ∙ sym (append-nil (kept_children marks done))
    ∙ ap (λ l. kept_children marks done ++ l) (sym (kept_none marks e unmarked)) ∙ sym (kept_push marks done e)
    ∙ ap (kept_children marks) (sym (take_more all i (0, 0) c.loop-child-test.true))

pub loop-child-preserved : goal.loop-child-preserved
loop-child-preserved c =
    let all = c.args.children.now in
    let marks = c.args.marks.now in
    let i = c.loop-child.child-index in
    let e = get_or all i (0, 0) in
    let item = get_or_read_under all i (length all) c.child-item.result (0, 0) c.child-item.is c.loop-child-test.true
    refl in
    let node = c.node-k.ensures ∙ ap (λ p. p.1) item in
    let character = c.character.ensures ∙ ap (λ p. p.0) item in
    let here = value_at_place all c.requires.sorted e.0 i (record { in_range = c.loop-child-test.true; has_key = refl })
    in
    let in_range = c.requires.in_range _ _ here in
    let there = subst (λ n. n < length marks) (sym node) in_range in
    let marked = subst (λ n. is_marked marks n ≡ true) node (is_marked_or marks c.node-k.result _ there
    ∙ c.if-not-marks-k.false) in
    let done = take i all in
    let both : Some (get_or c.args.numbers.now e.1 0)
    ≡ Some (new_number marks e.1) = sym (get_there c.args.numbers.now e.1 0
    (omega (arith, in_range, c.requires.numbers.count))) ∙ c.requires.numbers.each e.1 in_range in
    let number : get_or c.args.numbers.now e.1 0 ≡ new_number marks e.1 = cc in
    let renumbered = c.in_ok-renumbered.ensures.ok
    ∙ (λ j. (character j, (ap (λ n. get_or c.args.numbers.now n 0) node ∙ number) j)) in
    c.in_ok-push.ensures.ok ∙ (λ j. c.loop-child.invariant j ++ renumbered j ∷ [])
    ∙ ap (λ l. kept_children marks done ++ l) (sym (kept_one marks e marked)) ∙ sym (kept_push marks done e)
    ∙ ap (kept_children marks) (sym (take_more all i (0, 0) c.loop-child-test.true))
