use Rattle.std.proofs.Common.{◌≡◌, ◌++◌, ◌∷◌, [], refl, sym, ap, subst, ◌∙◌, arith, get_or, take, length, Some}
use Rattle.std.proofs.Common.{option_map, take_all, ℕ}
use Rattle.std.proofs.lemmas.List.{take_more, get_or_read_under}
use Rattle.std.specs.Prelude.{encode_utf8, slice_get}
use Rattle.serde_json.specs.View.{members_view, view}
use Rattle.serde_json.specs.Data.{put}
use Rattle.elasticlunr_trie.specs.Children.{child}
use Rattle.elasticlunr_trie.specs.Finished.{HasChildren, KeepsOtherValues}
use Rattle.elasticlunr_trie_nodes.proofs.Gap.{value_at_place}
use Rattle.elasticlunr_trie.proofs.Finishing.{no_children_yet, one_more_child, child_before, child_within, child_more}
use Rattle.elasticlunr_trie.proofs.Finishing.{child_push}
use Rattle.elasticlunr_trie.proofs.inverted_index.value.put_children.Goals as goal

pub loop-child-init : goal.loop-child-init
loop-child-init c = record { put = rw c.requires.empty (no_children_yet c.args.finished.now); kept = λ k h. refl }

pub take_value-requires : goal.take_value-requires
take_value-requires c =
    let all = c.args.children.now in
    let i = c.loop-child.child-index in
    let at = value_at_place all c.requires.sorted _ i (record { in_range = omega arith; has_key = refl }) in
    let item = get_or_read_under all i (length all) c.child-item.result (0, 0) c.child-item.is c.loop-child-test.true
    refl in
    let node = c.node.ensures ∙ ap (λ p. p.1) item in
    omega (arith, node, c.requires.in_range _ _ at, c.loop-child.auto.finished)

pub loop-child-preserved : goal.loop-child-preserved
loop-child-preserved c =
    let all = c.args.children.now in
    let i = c.loop-child.child-index in
    let e = get_or all i (0, 0) in
    let done = take i all in
    let item = get_or_read_under all i (length all) c.child-item.result (0, 0) c.child-item.is c.loop-child-test.true
    refl in
    let node = c.node.ensures ∙ ap (λ p. p.1) item in
    let character = c.character.ensures ∙ ap (λ p. p.0) item in
    let more = take_more all i (0, 0) c.loop-child-test.true in
    let here = value_at_place all c.requires.sorted e.0 i (record { in_range = c.loop-child-test.true; has_key = refl })
    in
    let none = child_before all c.requires.sorted i c.loop-child-test.true in
    let untaken = c.loop-child.invariant.kept e.1
    (λ d found. let same = c.requires.apart d e.0 e.1 (child_within all i d e.1 found) here in let x =
    ap (child done) same in absurd (cc (none, found, x))) in
    let taken = subst (λ n. slice_get c.loop-child.finished n ≡ Some c.take_value.result) node
    c.take_value.ensures.taken in
    let value = ap (option_map view) (sym untaken ∙ taken) in
    let key = c.in_ok-push.ensures.bytes ∙ (λ j. c.new-key.ensures.bytes j ++ encode_utf8 (character j)) in
    record {
      put = subst (λ es. HasChildren es c.args.finished.now (members_view c.put_member.new.members.entries)) (sym more)
          (subst (HasChildren (done ++ e ∷ []) c.args.finished.now)
          (sym (c.in_ok-put_member.ensures.put
          ∙ ap (λ k. put k (view c.take_value.result) (members_view c.loop-child.members.entries)) key))
          (one_more_child done c.args.finished.now (members_view c.loop-child.members.entries) e.0 e.1
          (view c.take_value.result) c.loop-child.invariant.put none value));
      kept = λ k h.
          let whole : (d : ℕ) → child (done ++ e ∷ []) d ≡ Some k → ⊥ = λ d. subst (λ es. child es d ≡ Some k → ⊥) more
          (h d) in
          c.take_value.ensures.others k (λ same. whole e.0 (child_push done e.0 e.1 none ∙ ap Some (sym (same ∙ node))))
          ∙ c.loop-child.invariant.kept k (λ d found. whole d (child_more done (e ∷ []) d k found));
    }

pub returns : goal.returns
returns c =
    let all = take_all c.loop-child.child-index c.args.children.now c.loop-child-test.false in
    record {
      put = subst (λ es. HasChildren es c.args.finished.now (members_view c.loop-child.members.entries)) all
          c.loop-child.invariant.put;
      kept = subst (λ es. KeepsOtherValues es c.args.finished.now c.loop-child.finished) all
          c.loop-child.invariant.kept;
    }
