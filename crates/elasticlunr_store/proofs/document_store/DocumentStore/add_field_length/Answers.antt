use Rattle.std.proofs.Common.{ap, sym, subst, ◌∙◌, arith}
use Rattle.elasticlunr_store.specs.Contents.{IsConsistent, with_length, contents_of, document_texts, document_lengths}
use Rattle.elasticlunr_store.specs.SmallLengths.{HasSmallLengths}
use Rattle.elasticlunr_store_maps.proofs.AreContents.{are_contents, small_lengths}
use Rattle.elasticlunr_store_maps.proofs.Kept.{length_kept, length_small}
use Rattle.std.proofs.Common.{rules}
use Rattle.elasticlunr_store.proofs.document_store.DocumentStore.add_field_length.Goals as goal

pub invariant_of-self-2 : goal.invariant_of-self-2
invariant_of-self-2 c =
    let set = sym c.in_ok-set_length.ensures.ok in
    are_contents c.self.inside.save c.self.inside.docs.entries c.set_length.new.doc_info.entries
    (subst IsConsistent (λ i. record {
      save = c.self.inside.save;
      texts = document_texts c.self.inside.docs.entries;
      lengths = set i;
    })
    (length_kept (contents_of c.self.inside.save c.self.inside.docs.entries c.self.inside.doc_info.entries)
    c.args.doc_ref.now c.args.field.now c.args.length c.self.invariant.consistent))
    (subst HasSmallLengths set (length_small (document_lengths c.self.inside.doc_info.entries) c.args.doc_ref.now
    c.args.field.now c.args.length (omega arith) (small_lengths _ c.self.invariant)))

pub returns-clause-ok : goal.returns-clause-ok
returns-clause-ok c =
    let set = c.in_ok-set_length.ensures.ok in
    (λ i. record { save = c.self.inside.save; texts = document_texts c.self.inside.docs.entries; lengths = set i })
    ∙ ap (λ s. with_length s c.args.doc_ref.now c.args.field.now c.args.length) c.self.view_is

pub invariant_of-self : goal.invariant_of-self
invariant_of-self c = search rules
