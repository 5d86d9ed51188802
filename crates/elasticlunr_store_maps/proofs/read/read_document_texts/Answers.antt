use Rattle.std.proofs.Common.{◌≡◌, [], ◌++◌, ◌∷◌, refl, sym, ap, subst, ◌∙◌, append_assoc, append-nil, string_cmp}
use Rattle.std.proofs.Common.{string_bytes}
use Rattle.std.specs.FinMap.{insert}
use Rattle.std.specs.List.Sorted.{IsStrictlySortedBy}
use Rattle.std.specs.Map.{keys_of}
use Rattle.serde_json.specs.Data.{object, string}
use Rattle.serde_json.specs.View.{members_view, view}
use Rattle.elasticlunr_json.specs.Maps.{keyed}
use Rattle.elasticlunr_store_maps.specs.Contents.{text_map, document_texts}
use Rattle.elasticlunr_json.proofs.ReadingMaps.{read_more, foreign_member, object_of, no_members_yet}
use Rattle.elasticlunr_json.proofs.Refusals.{refused_again}
use Rattle.std.proofs.Common.{rules}
use Rattle.elasticlunr_store_maps.proofs.read.read_document_texts.Goals as goal

pub loop-doc_ref-init : goal.loop-doc_ref-init
loop-doc_ref-init c = (
  [],
  refl,
  no_members_yet (keyed string) (document_texts c.new-docs.result.entries)
      (ap document_texts c.new-docs.ensures.empty),
)

pub loop-doc_ref-preserved : goal.loop-doc_ref-preserved
loop-doc_ref-preserved c =
    let held = c.loop-doc_ref.invariant in
    let more = ap (λ es. held.0 ++ es) (sym c.in-Some-2.ensures.steps) ∙ held.1 in
    let all = c.into_iter-doc_ref-iterator.ensures.into_iter_gives ∙ c.iter-doc_ref-items.ensures.rest in
    let sorted = subst (λ es. IsStrictlySortedBy string_cmp (keys_of es)) (sym (more ∙ all))
    c.iter-doc_ref-items.ensures.ordered in
    let is : document_texts c.put_texts.new.docs.entries ≡ insert (document_texts c.loop-doc_ref.docs.entries)
    (string_bytes c.in-Some-2.doc_ref.now) (text_map c.in_ok-texts.texts.entries) =
    c.in_ok-put_texts.ensures.ok ∙ (λ i. insert (document_texts c.loop-doc_ref.docs.entries) (c.deref.ensures i)
    (text_map c.in_ok-texts.texts.entries)) in (
      held.0 ++ (c.in-Some-2.doc_ref.now, c.in-Some-2.texts.now) ∷ [],
      append_assoc held.0 _ c.next.new.self ∙ more,
      read_more (keyed string) (document_texts c.loop-doc_ref.docs.entries)
          (document_texts c.put_texts.new.docs.entries) held.0 (c.in-Some-2.doc_ref.now, c.in-Some-2.texts.now)
          c.next.new.self (text_map c.in_ok-texts.texts.entries) sorted held.2 is c.in_ok-texts.ensures.ok,
    )

pub returns-clause-ok : goal.returns-clause-ok
returns-clause-ok c =
    let held = c.loop-doc_ref.invariant in
    let all = sym (append-nil held.0) ∙ ap (λ es. held.0 ++ es) (sym c.in-None.ensures.steps.0) ∙ held.1
    ∙ c.into_iter-doc_ref-iterator.ensures.into_iter_gives ∙ c.iter-doc_ref-items.ensures.rest in
    object_of _ _ c.in-Some.ensures ∙ ap object (ap members_view (sym all) ∙ held.2)

pub returns-in_err-texts-clause-err : goal.returns-in_err-texts-clause-err
returns-in_err-texts-clause-err c =
    let held = c.loop-doc_ref.invariant in
    let more = ap (λ es. held.0 ++ es) (sym c.in-Some-2.ensures.steps) ∙ held.1
    ∙ c.into_iter-doc_ref-iterator.ensures.into_iter_gives ∙ c.iter-doc_ref-items.ensures.rest in
    refused_again _ _ (foreign_member (keyed string) (view c.args.value.now) c.in-Some.members.now.entries held.0
    (c.in-Some-2.doc_ref.now, c.in-Some-2.texts.now) c.next.new.self (object_of _ _ c.in-Some.ensures) more)
    c.in_err-texts.field-0.0 c.from_residual.result c.from_residual.ensures.1 c.in_err-texts.ensures.err

pub returns-in_default-clause-err : goal.returns-in_default-clause-err
returns-in_default-clause-err c = search rules
