use Rattle.std.proofs.Common.{◌++◌, map, sym, ap, ◌∙◌, append-nil}
use Rattle.elasticlunr_store.specs.Contents.{text_map}
use Rattle.elasticlunr_pieces.specs.Numbers.{told_documents}
use Rattle.elasticlunr_pieces.proofs.Stored.{all_kept}
use Rattle.elasticlunr_pieces.proofs.documents.all_documents.Goals as goal

pub returns : goal.returns
returns c =
    let documents = told_documents c.loop-document.documents.items in
    sym (append-nil documents) ∙ ap (λ es. documents ++ map (λ e. text_map e.1.entries) es) (sym
    c.in-None.ensures.steps.0)
    ∙ c.loop-document.invariant
    ∙ ap (map (λ e. text_map e.1.entries)) (c.into_iter-document-iterator.ensures.into_iter_gives
    ∙ c.iter-document-items.ensures.rest)
    ∙ all_kept c.args.store.now c.docs-docs.result.now.entries c.docs-docs.ensures c.iter-document-items.ensures.ordered
