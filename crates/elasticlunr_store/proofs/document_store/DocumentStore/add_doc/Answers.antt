use Rattle.std.proofs.Common.{◌≡◌, cond, ap, sym, subst, ◌∙◌}
use Rattle.std.specs.FinMap.{insert, empty}
use Rattle.elasticlunr_store.specs.Contents.{IsConsistent, with_document, contents_of, text_map, document_texts}
use Rattle.elasticlunr_store.specs.Contents.{document_lengths}
use Rattle.elasticlunr_store_maps.proofs.AreContents.{are_contents, small_lengths}
use Rattle.elasticlunr_store_maps.proofs.Kept.{document_kept}
use Rattle.elasticlunr_store.proofs.document_store.DocumentStore.add_doc.Goals as goal
use Rattle.elasticlunr_store.proofs.document_store.DocumentStore.add_doc.Goals.{then-self, else-self}

pub invariant_of-self-2 : goal.invariant_of-self-2
invariant_of-self-2 c =
    let given = text_map c.args.doc.entries in
    let doc : text_map c.if-self.doc2.entries ≡ cond c.self.inside.save given empty = elim c.if-self.branch [
      | then-self w ↦ ap (λ m. text_map m.entries) w.doc2-is ∙ sym (ap (λ b. cond b given empty) w.if-self.true)
      | else-self w ↦ ap (λ m. text_map m.entries) w.doc2-is ∙ ap text_map w.new-doc.ensures.empty
          ∙ sym (ap (λ b. cond b given empty) w.if-self.false)
    ] in
    let texts = c.in_ok-put_texts.ensures.ok
    ∙ ap (insert (document_texts c.self.inside.docs.entries) c.args.doc_ref.now) doc in
    are_contents c.self.inside.save c.put_texts.new.docs.entries c.self.inside.doc_info.entries
    (subst IsConsistent (λ i. record {
      save = c.self.inside.save;
      texts = sym texts i;
      lengths = document_lengths
          c.self.inside.doc_info.entries;
    })
    (document_kept (contents_of c.self.inside.save c.self.inside.docs.entries c.self.inside.doc_info.entries)
    c.args.doc_ref.now given c.self.invariant.consistent))
    (small_lengths _ c.self.invariant)

pub returns-clause-ok : goal.returns-clause-ok
returns-clause-ok c =
    let given = text_map c.args.doc.entries in
    let doc : text_map c.if-self.doc2.entries ≡ cond c.self.inside.save given empty = elim c.if-self.branch [
      | then-self w ↦ ap (λ m. text_map m.entries) w.doc2-is ∙ sym (ap (λ b. cond b given empty) w.if-self.true)
      | else-self w ↦ ap (λ m. text_map m.entries) w.doc2-is ∙ ap text_map w.new-doc.ensures.empty
          ∙ sym (ap (λ b. cond b given empty) w.if-self.false)
    ] in
    let texts = c.in_ok-put_texts.ensures.ok
    ∙ ap (insert (document_texts c.self.inside.docs.entries) c.args.doc_ref.now) doc in
    (λ i. record {
      save = c.self.inside.save;
      texts = texts i;
      lengths = document_lengths c.self.inside.doc_info.entries;
    }) ∙ ap (λ s. with_document s c.args.doc_ref.now given) c.self.view_is
