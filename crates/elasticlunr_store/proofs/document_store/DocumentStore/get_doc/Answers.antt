use Rattle.std.proofs.Common.{Some, ap, sym, ◌∙◌, option_map}
use Rattle.std.specs.FinMap.{get}
use Rattle.elasticlunr_store.specs.Contents.{text_map}
use Rattle.std.proofs.Common.{string_bytes}
use Rattle.elasticlunr_json.proofs.Seen.{get_seen, cloned}
use Rattle.elasticlunr_store.proofs.document_store.DocumentStore.get_doc.Goals as goal

pub returns-in_ok-clone-in-Some-clause-ok : goal.returns-in_ok-clone-in-Some-clause-ok
returns-in_ok-clone-in-Some-clause-ok c =
    ap Some (cloned string_bytes _ (λ s t e. e) c.in-Some.doc.now.entries c.in_ok-clone-in-Some.field-0.entries
    c.in_ok-clone-in-Some.ensures.cases)
    ∙ ap (option_map (λ m. text_map m.entries)) c.in-Some.ensures.value
    ∙ sym (get_seen (λ m. text_map m.entries) c.self.inside.docs c.args.doc_ref.now)
    ∙ ap (λ s. get s.texts c.args.doc_ref.now) c.self.view_is

pub returns-in-None-clause-ok : goal.returns-in-None-clause-ok
returns-in-None-clause-ok c =
    ap (option_map (λ m. text_map m.entries)) c.in-None.ensures.value
    ∙ sym (get_seen (λ m. text_map m.entries) c.self.inside.docs c.args.doc_ref.now)
    ∙ ap (λ s. get s.texts c.args.doc_ref.now) c.self.view_is
