use Rattle.std.proofs.Common.{cond, ap, ◌∙◌, unwrap_or}
use Rattle.elasticlunr_store.specs.Contents.{length_at}
use Rattle.std.proofs.Common.{rules}
use Rattle.elasticlunr_store.proofs.document_store.DocumentStore.get_field_length.Goals as goal

pub returns-then-has_doc : goal.returns-then-has_doc
returns-then-has_doc c =
    let r = c.args.doc_ref.now in
    let length = c.find_length.ensures ∙ ap (λ s. length_at s r c.args.field.now) c.self.view_is in
    c.unwrap_or.ensures ∙ ap (λ o. unwrap_or o 0) length
    ∙ ap (λ b. cond b (unwrap_or (length_at c.args.self.now r c.args.field.now) 0) 0) c.if-has_doc.ensures

pub returns-else-has_doc : goal.returns-else-has_doc
returns-else-has_doc c = search rules
