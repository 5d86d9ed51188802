use Rattle.std.proofs.Common.{ap, sym, subst, ◌∙◌}
use Rattle.std.proofs.lemmas.Map.Text.{btree_map_updates_text}
use Rattle.elasticlunr_store.specs.Contents.{IsConsistent, without_document, contents_of, text_map, document_lengths}
use Rattle.elasticlunr_store_maps.proofs.AreContents.{are_contents, small_lengths}
use Rattle.elasticlunr_json.proofs.Seen.{seen_removed}
use Rattle.elasticlunr_store_maps.proofs.Kept.{removed_kept}
use Rattle.elasticlunr_store.proofs.document_store.DocumentStore.remove_doc.Goals as goal

pub invariant_of-self : goal.invariant_of-self
invariant_of-self c =
    let r = c.args.doc_ref.now in
    let texts = seen_removed (λ m. text_map m.entries) c.self.inside.docs c.remove.new.self r
    (btree_map_updates_text r c.self.inside.docs c.remove.new.self _ c.remove.ensures.updates) in
    are_contents c.self.inside.save c.remove.new.self.entries c.self.inside.doc_info.entries
    (subst IsConsistent (λ i. record {
      save = c.self.inside.save;
      texts = sym texts i;
      lengths = document_lengths
          c.self.inside.doc_info.entries;
    })
    (removed_kept (contents_of c.self.inside.save c.self.inside.docs.entries c.self.inside.doc_info.entries) r
    c.self.invariant.consistent))
    (small_lengths _ c.self.invariant)

pub returns : goal.returns
returns c =
    let r = c.args.doc_ref.now in
    let texts = seen_removed (λ m. text_map m.entries) c.self.inside.docs c.remove.new.self r
    (btree_map_updates_text r c.self.inside.docs c.remove.new.self _ c.remove.ensures.updates) in
    (λ i. record {
      save = c.self.inside.save;
      texts = texts i;
      lengths = document_lengths c.self.inside.doc_info.entries;
    }) ∙ ap (λ s. without_document s r) c.self.view_is
