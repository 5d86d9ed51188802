use Rattle.std.proofs.Common.{◌≢◌, IsSomeAnd, subst, ap, sym, ◌∙◌}
use mathlib.Core.Bool.{false≢true}
use Rattle.std.specs.FinMap.{get, len, empty}
use Rattle.serde_json.specs.Data.{object, string}
use Rattle.elasticlunr_store.specs.Contents.{IsConsistent, contents_of, store_members, store_object, text_map}
use Rattle.elasticlunr_store.specs.Contents.{document_texts, document_lengths}
use Rattle.elasticlunr_json.specs.Maps.{keyed, count}
use Rattle.elasticlunr_store_maps.proofs.AreContents.{are_contents}
use Rattle.elasticlunr_json.proofs.Sorted.{len_seen}
use Rattle.elasticlunr_store_maps.proofs.Values.{same_parts}
use Rattle.elasticlunr_json.proofs.ReadingMaps.{object_of, count_of, bool_of, not_both}
use Rattle.elasticlunr_store.proofs.document_store.DocumentStore.from_value.Goals as goal
use Rattle.elasticlunr_store.proofs.document_store.DocumentStore.from_value.Goals.{else-not-save-via-then-not-save+else-has_text}
use Rattle.elasticlunr_store.proofs.document_store.DocumentStore.from_value.Goals.{else-not-save-via-else-not-save}

pub returns-then-len-length-clause-foreign : goal.returns-then-len-length-clause-foreign
returns-then-len-length-clause-foreign c other rule is =
    let whole = object_of _ _ c.in-Some.ensures ∙ ap object c.in-Some-store_parts.ensures.some
    ∙ (λ i. object (store_members (c.in_ok-doc_info.ensures.ok i) (c.in_ok-docs.ensures.ok i)
    (count_of _ _ c.in-Some-as_u64.ensures i) (bool_of _ _ c.in-Some-as_bool.ensures i))) in
    let parts = same_parts other c.in-Some-as_bool.save (document_texts c.in_ok-docs.docs.entries)
    (document_lengths c.in_ok-doc_info.doc_info.entries) c.in-Some-as_u64.length (sym whole ∙ is) in
    let how_many = c.len.ensures.len ∙ sym (len_seen (λ m. text_map m.entries) c.in_ok-docs.docs.entries
    c.len.ensures.ordered) ∙ ap len (sym parts.1) ∙ parts.3 in
    c.if-len-length.true how_many

pub returns-then-has_empty-clause-foreign : goal.returns-then-has_empty-clause-foreign
returns-then-has_empty-clause-foreign c other rule is =
    let whole = object_of _ _ c.in-Some.ensures ∙ ap object c.in-Some-store_parts.ensures.some
    ∙ (λ i. object (store_members (c.in_ok-doc_info.ensures.ok i) (c.in_ok-docs.ensures.ok i)
    (count_of _ _ c.in-Some-as_u64.ensures i) (bool_of _ _ c.in-Some-as_bool.ensures i))) in
    let parts = same_parts other c.in-Some-as_bool.save (document_texts c.in_ok-docs.docs.entries)
    (document_lengths c.in_ok-doc_info.doc_info.entries) c.in-Some-as_u64.length (sym whole ∙ is) in
    rule.has_lengths c.if-has_empty.ensures.yes.0 (ap (λ m. get m c.if-has_empty.ensures.yes.0) parts.2
    ∙ c.if-has_empty.ensures.yes.1)

pub returns-then-has_text-clause-foreign : goal.returns-then-has_text-clause-foreign
returns-then-has_text-clause-foreign c other rule is =
    let whole = object_of _ _ c.in-Some.ensures ∙ ap object c.in-Some-store_parts.ensures.some
    ∙ (λ i. object (store_members (c.in_ok-doc_info.ensures.ok i) (c.in_ok-docs.ensures.ok i)
    (count_of _ _ c.in-Some-as_u64.ensures i) (bool_of _ _ c.in-Some-as_bool.ensures i))) in
    let parts = same_parts other c.in-Some-as_bool.save (document_texts c.in_ok-docs.docs.entries)
    (document_lengths c.in_ok-doc_info.doc_info.entries) c.in-Some-as_u64.length (sym whole ∙ is) in
    let r = c.if-has_text.ensures.yes.0 in
    not_both empty (get other.texts r) (subst (λ m. IsSomeAnd (get m r) (λ texts. texts ≢ empty)) (sym parts.1)
    c.if-has_text.ensures.yes.1) (rule.unsaved (parts.0 ∙ c.if-not-save.true) r)

pub returns-clause-ok : goal.returns-clause-ok
returns-clause-ok c =
    let whole = object_of _ _ c.in-Some.ensures ∙ ap object c.in-Some-store_parts.ensures.some
    ∙ (λ i. object (store_members (c.in_ok-doc_info.ensures.ok i) (c.in_ok-docs.ensures.ok i)
    (count_of _ _ c.in-Some-as_u64.ensures i) (bool_of _ _ c.in-Some-as_bool.ensures i))) in
    let how_many = c.len.ensures.len ∙ sym (len_seen (λ m. text_map m.entries) c.in_ok-docs.docs.entries
    c.len.ensures.ordered) in
    whole ∙ ap (store_object c.in-Some-as_bool.save (keyed (keyed string) (document_texts c.in_ok-docs.docs.entries))
    (keyed (keyed count) (document_lengths c.in_ok-doc_info.doc_info.entries))) (sym c.if-len-length.false
    ∙ how_many)

pub invariant_of-result : goal.invariant_of-result
invariant_of-result c =
    let consistent : IsConsistent (contents_of c.in-Some-as_bool.save c.in_ok-docs.docs.entries
    c.in_ok-doc_info.doc_info.entries) = record {
      has_lengths = c.if-has_empty.ensures.no;
      unsaved = λ unsaved r. elim c.else-not-save.branch [
        | else-not-save-via-then-not-save+else-has_text w ↦ w.if-has_text.ensures.no r
        | else-not-save-via-else-not-save w ↦ absurd (false≢true (sym unsaved ∙ w.if-not-save.false))
      ];
    } in
    are_contents c.in-Some-as_bool.save c.in_ok-docs.docs.entries c.in_ok-doc_info.doc_info.entries consistent
    c.in_ok-doc_info.ensures.small

pub returns-clause-contents : goal.returns-clause-contents
returns-clause-contents c =
    let consistent : IsConsistent (contents_of c.in-Some-as_bool.save c.in_ok-docs.docs.entries
    c.in_ok-doc_info.doc_info.entries) = record {
      has_lengths = c.if-has_empty.ensures.no;
      unsaved = λ unsaved r. elim c.else-not-save.branch [
        | else-not-save-via-then-not-save+else-has_text w ↦ w.if-has_text.ensures.no r
        | else-not-save-via-else-not-save w ↦ absurd (false≢true (sym unsaved ∙ w.if-not-save.false))
      ];
    } in
    are_contents c.in-Some-as_bool.save c.in_ok-docs.docs.entries c.in_ok-doc_info.doc_info.entries consistent
    c.in_ok-doc_info.ensures.small
