use Rattle.std.proofs.Common.{ap, sym, subst, ◌∙◌}
use Rattle.std.specs.FinMap.{remove}
use Rattle.std.proofs.lemmas.Map.Text.{btree_map_updates_text}
use Rattle.elasticlunr_store.specs.Contents.{Contents, IsConsistent, contents_of, length_map, document_texts}
use Rattle.elasticlunr_store.specs.Contents.{document_lengths}
use Rattle.elasticlunr_store.specs.SmallLengths.{HasSmallLengths}
use Rattle.elasticlunr_store_maps.proofs.AreContents.{are_contents, small_lengths}
use Rattle.elasticlunr_json.proofs.Seen.{seen_removed}
use Rattle.elasticlunr_store_maps.proofs.Kept.{without_lengths_kept, small_removed}
use Rattle.elasticlunr_store.proofs.document_store.DocumentStore.forget_doc.Goals as goal

pub invariant_of-self : goal.invariant_of-self
invariant_of-self c =
    let r = c.args.doc_ref.now in
    let lengths = seen_removed (λ m. length_map m.entries) c.self.inside.doc_info c.remove.new.self r
    (btree_map_updates_text r c.self.inside.doc_info c.remove.new.self _ c.remove.ensures.updates) in
    are_contents c.self.inside.save c.self.inside.docs.entries c.remove.new.self.entries
    (subst IsConsistent (λ i. record {
      save = c.self.inside.save;
      texts = document_texts c.self.inside.docs.entries;
      lengths = sym lengths i;
    })
    (without_lengths_kept (contents_of c.self.inside.save c.self.inside.docs.entries c.self.inside.doc_info.entries) r
    c.self.invariant.consistent))
    (subst HasSmallLengths (sym lengths) (small_removed (document_lengths c.self.inside.doc_info.entries) r
    (small_lengths _ c.self.invariant)))

pub returns : goal.returns
returns c =
    let r = c.args.doc_ref.now in
    let lengths = seen_removed (λ m. length_map m.entries) c.self.inside.doc_info c.remove.new.self r
    (btree_map_updates_text r c.self.inside.doc_info c.remove.new.self _ c.remove.ensures.updates) in
    let cut : Contents → Contents = λ s. record s { lengths = remove s.lengths r } in
    (λ i. record { save = c.self.inside.save; texts = document_texts c.self.inside.docs.entries; lengths = lengths i })
    ∙ ap cut (c.self.view_is ∙ c.remove_doc.ensures)
