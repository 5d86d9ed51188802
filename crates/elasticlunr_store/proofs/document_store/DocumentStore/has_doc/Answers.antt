use Rattle.std.proofs.Common.{ap, sym, ◌∙◌, is_some}
use Rattle.std.specs.FinMap.{contains_key}
use Rattle.elasticlunr_store.specs.Contents.{text_map}
use Rattle.elasticlunr_json.proofs.Seen.{get_seen, is_some_map}
use Rattle.elasticlunr_store.proofs.document_store.DocumentStore.has_doc.Goals as goal

pub returns : goal.returns
returns c =
    c.contains_key.ensures ∙ sym (is_some_map (λ m. text_map m.entries) _)
    ∙ ap is_some (sym (get_seen (λ m. text_map m.entries) c.self.inside.docs c.args.doc_ref.now))
    ∙ ap (λ s. contains_key s.texts c.args.doc_ref.now) c.self.view_is
