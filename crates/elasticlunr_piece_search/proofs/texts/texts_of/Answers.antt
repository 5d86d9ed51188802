use Rattle.std.proofs.Common.{[], ◌++◌, ◌∷◌, refl, sym, ap, subst, ◌∙◌, append_assoc, append-nil, string_cmp}
use Rattle.std.proofs.Common.{string_bytes}
use Rattle.std.specs.FinMap.{insert}
use Rattle.std.specs.List.Sorted.{IsStrictlySortedBy}
use Rattle.std.specs.Map.{keys_of}
use Rattle.std.proofs.lemmas.Map.Text.{btree_map_updates_text}
use Rattle.serde_json.specs.Data.{object, string}
use Rattle.serde_json.specs.View.{members_view, view}
use Rattle.elasticlunr_store.specs.Contents.{text_map}
use Rattle.elasticlunr_json.proofs.Seen.{seen_inserted}
use Rattle.elasticlunr_json.proofs.ReadingMaps.{read_more, foreign_member, object_of, string_of, no_string}
use Rattle.elasticlunr_json.proofs.ReadingMaps.{no_members_yet}
use Rattle.elasticlunr_piece_search.proofs.texts.texts_of.Goals as goal

pub loop-field-init : goal.loop-field-init
loop-field-init c = (
  [],
  refl,
  no_members_yet string (text_map c.new-texts.result.entries)
      (ap text_map c.new-texts.ensures.empty),
)

pub returns-in_default-as_str-clause-err : goal.returns-in_default-as_str-clause-err
returns-in_default-as_str-clause-err c =
    let held = c.loop-field.invariant in
    let more = ap (λ es. held.0 ++ es) (sym c.in-Some-2.ensures.steps) ∙ held.1
    ∙ c.into_iter-field-iterator.ensures.into_iter_gives ∙ c.iter-field-items.ensures.rest in
    foreign_member string (view c.args.document.now) c.in-Some.members.now.entries held.0
    (c.in-Some-2.field.now, c.in-Some-2.text.now) c.next.new.self (object_of _ _ c.in-Some.ensures) more
    (no_string _ c.in_default-as_str.ensures)

pub loop-field-preserved-in_ok-insert : goal.loop-field-preserved-in_ok-insert
loop-field-preserved-in_ok-insert c =
    let held = c.loop-field.invariant in
    let more = ap (λ es. held.0 ++ es) (sym c.in-Some-2.ensures.steps) ∙ held.1 in
    let all = c.into_iter-field-iterator.ensures.into_iter_gives ∙ c.iter-field-items.ensures.rest in
    let sorted = subst (λ es. IsStrictlySortedBy string_cmp (keys_of es)) (sym (more ∙ all))
    c.iter-field-items.ensures.ordered in
    let name = string_bytes c.in_ok-clone.field-0 in
    let put = seen_inserted string_bytes c.loop-field.texts c.insert.new.self name c.in_ok-text.text
    (btree_map_updates_text name c.loop-field.texts c.insert.new.self _ c.in_ok-insert.ensures.updates) in
    let is = put ∙ (λ i. insert (text_map c.loop-field.texts.entries) (c.in_ok-clone.ensures.cases i)
    (string_bytes c.in_ok-text.text)) in (
      held.0 ++ (c.in-Some-2.field.now, c.in-Some-2.text.now) ∷ [],
      append_assoc held.0 _ c.next.new.self ∙ more,
      read_more string (text_map c.loop-field.texts.entries) (text_map c.insert.new.self.entries) held.0
          (c.in-Some-2.field.now, c.in-Some-2.text.now) c.next.new.self (string_bytes c.in_ok-text.text) sorted
          held.2 is (string_of _ _ c.in-Some-as_str.ensures ∙ ap string (sym c.in_ok-text.ensures.ok)),
    )

pub loop-field-preserved : goal.loop-field-preserved
loop-field-preserved c =
    let held = c.loop-field.invariant in
    let more = ap (λ es. held.0 ++ es) (sym c.in-Some-2.ensures.steps) ∙ held.1 in
    let all = c.into_iter-field-iterator.ensures.into_iter_gives ∙ c.iter-field-items.ensures.rest in
    let sorted = subst (λ es. IsStrictlySortedBy string_cmp (keys_of es)) (sym (more ∙ all))
    c.iter-field-items.ensures.ordered in
    let name = string_bytes c.in_ok-clone.field-0 in
    let put = seen_inserted string_bytes c.loop-field.texts c.insert.new.self name c.in_ok-text.text
    (btree_map_updates_text name c.loop-field.texts c.insert.new.self _ c.in_ok-insert.ensures.updates) in
    let is = put ∙ (λ i. insert (text_map c.loop-field.texts.entries) (c.in_ok-clone.ensures.cases i)
    (string_bytes c.in_ok-text.text)) in (
      held.0 ++ (c.in-Some-2.field.now, c.in-Some-2.text.now) ∷ [],
      append_assoc held.0 _ c.next.new.self ∙ more,
      read_more string (text_map c.loop-field.texts.entries) (text_map c.insert.new.self.entries) held.0
          (c.in-Some-2.field.now, c.in-Some-2.text.now) c.next.new.self (string_bytes c.in_ok-text.text) sorted
          held.2 is (string_of _ _ c.in-Some-as_str.ensures ∙ ap string (sym c.in_ok-text.ensures.ok)),
    )

pub returns-clause-ok : goal.returns-clause-ok
returns-clause-ok c =
    let held = c.loop-field.invariant in
    let all = sym (append-nil held.0) ∙ ap (λ es. held.0 ++ es) (sym c.in-None.ensures.steps.0) ∙ held.1
    ∙ c.into_iter-field-iterator.ensures.into_iter_gives ∙ c.iter-field-items.ensures.rest in
    object_of _ _ c.in-Some.ensures ∙ ap object (ap members_view (sym all) ∙ held.2)
