use Rattle.std.proofs.Common.{[], ◌++◌, ◌∷◌, refl, sym, ap, subst, ◌∙◌, append_assoc, append-nil, string_cmp}
use Rattle.std.specs.List.Sorted.{IsStrictlySortedBy}
use Rattle.std.specs.Map.{keys_of}
use Rattle.serde_json.specs.Data.{object, string, put}
use Rattle.serde_json.specs.View.{members_view}
use Rattle.serde_json.proofs.Views.{view-Object}
use Rattle.elasticlunr_json.specs.Maps.{members, keyed}
use Rattle.elasticlunr_store_maps.specs.Contents.{text_map}
use Rattle.elasticlunr_json.proofs.Sorted.{shown, put_last, whole}
use Rattle.elasticlunr_store_maps.proofs.value.document_texts_value.Goals as goal

pub loop-doc_ref-init : goal.loop-doc_ref-init
loop-doc_ref-init c = (
  [],
  c.into_iter-doc_ref-iterator.ensures.into_iter_gives ∙ c.iter-doc_ref-items.ensures.rest,
  ap members_view c.new-members.ensures.empty,
)

pub loop-doc_ref-preserved : goal.loop-doc_ref-preserved
loop-doc_ref-preserved c =
    let held = c.loop-doc_ref.invariant in
    let more = ap (λ es. held.0 ++ es) (sym c.in-Some.ensures.steps) ∙ held.1 in
    let inner = c.in_ok-texts_value.ensures in
    let sorted = subst (λ es. IsStrictlySortedBy string_cmp (keys_of es)) (sym more)
    c.iter-doc_ref-items.ensures.ordered in (
      held.0 ++ (c.in-Some.doc_ref.now, c.in-Some.texts.now) ∷ [],
      append_assoc held.0 _ c.next.new.self ∙ more,
      c.in_ok-set_member.ensures.put ∙ (λ i. put (c.deref.ensures i) (inner i) (held.2 i))
          ∙ put_last (λ m. text_map m.entries) (keyed string) held.0 (c.in-Some.doc_ref.now, c.in-Some.texts.now)
          c.next.new.self _ sorted refl,
    )

pub returns : goal.returns
returns c =
    let held = c.loop-doc_ref.invariant in
    let all = sym (append-nil held.0) ∙ ap (λ es. held.0 ++ es) (sym c.in-None.ensures.steps.0) ∙ held.1 in
    view-Object c.loop-doc_ref.members ∙ ap object
    (held.2 ∙ ap (λ es. members (keyed string) (shown (λ m. text_map m.entries) es)) all)
    ∙ whole (λ m. text_map m.entries) (keyed string) c.args.docs.now.entries c.iter-doc_ref-items.ensures.ordered
