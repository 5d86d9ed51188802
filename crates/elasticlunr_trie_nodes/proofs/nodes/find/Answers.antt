use Rattle.std.proofs.Common.{sym, ap, ◌∙◌}
use Rattle.std.proofs.lemmas.Str.{IsUtf8-past_char, chars_past_char, chars-nil}
use Rattle.std.proofs.lemmas.List.{nil_from_length}
use Rattle.std.specs.Str.{chars}
use Rattle.elasticlunr_trie_nodes.specs.Pairs.{value_of}
use Rattle.elasticlunr_trie_nodes.specs.Trie.{walk, step_of}
use Rattle.elasticlunr_trie_nodes.proofs.Forest.{walk_on, walk_off}
use Rattle.elasticlunr_trie_nodes.proofs.nodes.find.Goals as goal

-- the character is taken off the text that is left
pub loop-c-preserved : goal.loop-c-preserved
loop-c-preserved c =
    let held = c.loop-c.invariant in
    let parts = c.in-Some.ensures.steps.0 in
    let next = ap (walk (step_of c.args.root.now c.args.nodes.now) c.loop-c.place)
    (chars_past_char _ _ c.in-Some.c held.0 parts) in
    let here = ap (λ es. value_of es c.in-Some.c) c.children_at.ensures in (
      IsUtf8-past_char _ _ c.in-Some.c held.0 parts,
      sym (walk_on (step_of c.args.root.now c.args.nodes.now) c.loop-c.place c.in-Some.c _ _ (sym here
          ∙ sym c.child.ensures ∙ c.in_ok-child.was)) ∙ sym next ∙ held.1,
    )

pub returns-in_err-child : goal.returns-in_err-child
returns-in_err-child c =
    let held = c.loop-c.invariant in
    let parts = c.in-Some.ensures.steps.0 in
    let next = ap (walk (step_of c.args.root.now c.args.nodes.now) c.loop-c.place)
    (chars_past_char _ _ c.in-Some.c held.0 parts) in
    let here = ap (λ es. value_of es c.in-Some.c) c.children_at.ensures in
    c.from_residual.ensures ∙ sym (walk_off (step_of c.args.root.now c.args.nodes.now) c.loop-c.place c.in-Some.c _
    (sym here ∙ sym c.child.ensures ∙ c.in_err-child.was)) ∙ sym next ∙ held.1

-- nothing is left
pub returns : goal.returns
returns c =
    let held = c.loop-c.invariant in
    let none = ap chars (nil_from_length _ c.in-None.ensures.steps.0.0) ∙ chars-nil in
    sym (ap (walk (step_of c.args.root.now c.args.nodes.now) c.loop-c.place) none) ∙ held.1
