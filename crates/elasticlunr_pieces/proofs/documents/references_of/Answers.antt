use Rattle.std.proofs.Common.{◌++◌, map, string_bytes, sym, ap, subst, ◌∙◌, append-nil}
use Rattle.std.specs.List.Sorted.{IsStrictlySortedBy}
use Rattle.elasticlunr_error.specs.Text.{text_cmp}
use Rattle.elasticlunr_pieces.specs.Numbers.{told_texts}
use Rattle.elasticlunr_pieces.proofs.Listed.{strings_in_order}
use Rattle.elasticlunr_pieces.proofs.Stored.{all_references, names_by_keys}
use Rattle.elasticlunr_pieces.proofs.documents.references_of.Goals as goal

pub returns-clause-texts : goal.returns-clause-texts
returns-clause-texts c =
    let names = told_texts c.loop-reference.names.items in
    sym (append-nil names) ∙ ap (λ es. names ++ map (λ e. string_bytes e.0) es) (sym c.in-None.ensures.steps.0)
    ∙ c.loop-reference.invariant
    ∙ ap (map (λ e. string_bytes e.0)) (c.into_iter-reference-iterator.ensures.into_iter_gives
    ∙ c.iter-reference-items.ensures.rest)
    ∙ all_references c.args.store.now c.docs-docs.result.now.entries c.docs-docs.ensures
    c.iter-reference-items.ensures.ordered

pub returns-clause-order : goal.returns-clause-order
returns-clause-order c =
    let es = c.docs-docs.result.now.entries in
    let ordered = c.iter-reference-items.ensures.ordered in
    subst (IsStrictlySortedBy text_cmp) (names_by_keys es ∙ all_references c.args.store.now es c.docs-docs.ensures ordered)
    (strings_in_order _ ordered)
