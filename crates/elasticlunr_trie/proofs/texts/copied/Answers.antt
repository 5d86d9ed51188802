use Rattle.std.proofs.Common.{[], ◌∷◌, ◌++◌, map, sym, ap, ◌∙◌, append_assoc, append-nil}
use Rattle.elasticlunr_error.specs.Text.{bytes_of}
use Rattle.elasticlunr_trie.proofs.Keys.{bytes_behind}
use Rattle.elasticlunr_trie.proofs.References.{in_order, now_behind}
use Rattle.elasticlunr_trie.proofs.texts.copied.Goals as goal

pub loop-text-init : goal.loop-text-init
loop-text-init c = (
  [],
  c.into_iter-text-iterator.ensures.into_iter_gives
      ∙ c.iter-text-items.ensures.rest,
  ap bytes_of c.in_ok-copies.ensures.items,
)

pub loop-text-preserved : goal.loop-text-preserved
loop-text-preserved c =
    let held = c.loop-text.invariant in
    let text = c.in-Some.text.now in
    let more = ap (λ ts. held.0 ++ ts) (sym c.in-Some.ensures.steps) ∙ held.1 in (
      held.0 ++ text ∷ [],
      append_assoc held.0 (text ∷ []) c.next.new.self ∙ more,
      ap bytes_of c.in_ok-push.ensures.items ∙ bytes_behind c.loop-text.copies.items c.in_ok-from_str.field-0
          ∙ (λ i. held.2 i ++ c.in_ok-from_str.ensures.ok i ∷ []) ∙ sym (now_behind held.0 text),
    )

pub returns-clause-texts : goal.returns-clause-texts
returns-clause-texts c =
    let held = c.loop-text.invariant in
    let all = sym (append-nil held.0) ∙ ap (λ ts. held.0 ++ ts) (sym c.in-None.ensures.steps.0) ∙ held.1 in
    held.2 ∙ ap (map (λ t. t.now)) all

pub returns-clause-order : goal.returns-clause-order
returns-clause-order c = in_order c.args.texts.now.keys c.iter-text-items.ensures.ordered
