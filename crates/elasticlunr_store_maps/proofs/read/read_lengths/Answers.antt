use Rattle.std.proofs.Common.{◌<◌, ◌^◌, arith, [], ◌++◌, ◌∷◌, refl, sym, ap, subst, ◌∙◌, append_assoc, append-nil}
use Rattle.std.proofs.Common.{string_cmp, string_bytes}
use Rattle.std.specs.FinMap.{insert}
use Rattle.std.specs.List.Sorted.{IsStrictlySortedBy}
use Rattle.std.specs.Map.{keys_of}
use Rattle.std.proofs.lemmas.Map.Text.{btree_map_updates_text}
use Rattle.serde_json.specs.Data.{object}
use Rattle.serde_json.specs.View.{members_view, view}
use Rattle.elasticlunr_json.specs.Maps.{count}
use Rattle.elasticlunr_store_maps.specs.Contents.{length_map}
use Rattle.elasticlunr_store_maps.specs.SmallLengths.{AreSmallLengths}
use Rattle.elasticlunr_store_maps.proofs.Kept.{all_empty, one_more_small}
use Rattle.elasticlunr_json.proofs.Seen.{seen_inserted}
use Rattle.elasticlunr_json.proofs.ReadingMaps.{read_more, foreign_member, object_of, count_of, no_count}
use Rattle.elasticlunr_json.proofs.ReadingMaps.{no_members_yet}
use Rattle.elasticlunr_store_maps.proofs.read.read_lengths.Goals as goal

pub loop-field-init : goal.loop-field-init
loop-field-init c = (
  [],
  refl,
  no_members_yet count (length_map c.new-lengths.result.entries)
      (ap length_map c.new-lengths.ensures.empty),
  subst AreSmallLengths
      (ap length_map (sym c.new-lengths.ensures.empty)) (all_empty (λ n. n < 2 ^ 64)),
)

pub returns-in_default-as_u64-clause-err : goal.returns-in_default-as_u64-clause-err
returns-in_default-as_u64-clause-err c =
    let held = c.loop-field.invariant in
    let more = ap (λ es. held.0 ++ es) (sym c.in-Some-2.ensures.steps) ∙ held.1
    ∙ c.into_iter-field-iterator.ensures.into_iter_gives ∙ c.iter-field-items.ensures.rest in
    foreign_member count (view c.args.value.now) c.in-Some.members.now.entries held.0
    (c.in-Some-2.field.now, c.in-Some-2.length.now) c.next.new.self (object_of _ _ c.in-Some.ensures) more
    (no_count _ c.in_default-as_u64.ensures)

pub loop-field-preserved : goal.loop-field-preserved
loop-field-preserved c =
    let held = c.loop-field.invariant in
    let more = ap (λ es. held.0 ++ es) (sym c.in-Some-2.ensures.steps) ∙ held.1 in
    let all = c.into_iter-field-iterator.ensures.into_iter_gives ∙ c.iter-field-items.ensures.rest in
    let sorted = subst (λ es. IsStrictlySortedBy string_cmp (keys_of es)) (sym (more ∙ all))
    c.iter-field-items.ensures.ordered in
    let name = string_bytes c.in_ok-clone.field-0 in
    let put = seen_inserted (λ n. n) c.loop-field.lengths c.insert.new.self name c.in-Some-as_u64.length
    (btree_map_updates_text name c.loop-field.lengths c.insert.new.self _ c.in_ok-insert.ensures.updates) in
    let is = put ∙ (λ i. insert (length_map c.loop-field.lengths.entries) (c.in_ok-clone.ensures.cases i)
    c.in-Some-as_u64.length) in (
      held.0 ++ (c.in-Some-2.field.now, c.in-Some-2.length.now) ∷ [],
      append_assoc held.0 _ c.next.new.self ∙ more,
      read_more count (length_map c.loop-field.lengths.entries) (length_map c.insert.new.self.entries) held.0
          (c.in-Some-2.field.now, c.in-Some-2.length.now) c.next.new.self c.in-Some-as_u64.length sorted held.2 is
          (count_of _ _ c.in-Some-as_u64.ensures),
      subst AreSmallLengths (sym is) (one_more_small (length_map c.loop-field.lengths.entries)
          (string_bytes c.in-Some-2.field.now) c.in-Some-as_u64.length (omega arith) held.3),
    )

pub returns-clause-ok : goal.returns-clause-ok
returns-clause-ok c =
    let held = c.loop-field.invariant in
    let all = sym (append-nil held.0) ∙ ap (λ es. held.0 ++ es) (sym c.in-None.ensures.steps.0) ∙ held.1
    ∙ c.into_iter-field-iterator.ensures.into_iter_gives ∙ c.iter-field-items.ensures.rest in
    object_of _ _ c.in-Some.ensures ∙ ap object (ap members_view (sym all) ∙ held.2)

pub returns-clause-small : goal.returns-clause-small
returns-clause-small c = c.loop-field.invariant.3
