use Rattle.std.proofs.Common.{[], ◌++◌, ◌∷◌, refl, sym, ap, subst, ◌∙◌, append_assoc, append-nil, string_cmp}
use Rattle.std.specs.List.Sorted.{IsStrictlySortedBy}
use Rattle.std.specs.Map.{keys_of}
use Rattle.serde_json.specs.Data.{object, put}
use Rattle.serde_json.specs.View.{members_view}
use Rattle.serde_json.proofs.Views.{view-Object}
use Rattle.elasticlunr_json.specs.Maps.{members, count}
use Rattle.elasticlunr_json.proofs.Sorted.{shown, put_last, whole}
use Rattle.elasticlunr_store_maps.proofs.value.lengths_value.Goals as goal

pub loop-field-init : goal.loop-field-init
loop-field-init c = (
  [],
  c.into_iter-field-iterator.ensures.into_iter_gives ∙ c.iter-field-items.ensures.rest,
  ap members_view c.new-members.ensures.empty,
)

pub loop-field-preserved : goal.loop-field-preserved
loop-field-preserved c =
    let held = c.loop-field.invariant in
    let more = ap (λ es. held.0 ++ es) (sym c.in-Some.ensures.steps) ∙ held.1 in
    let inner = c.from.ensures in
    let sorted = subst (λ es. IsStrictlySortedBy string_cmp (keys_of es)) (sym more) c.iter-field-items.ensures.ordered
    in (
      held.0 ++ (c.in-Some.field.now, c.in-Some.length.now) ∷ [],
      append_assoc held.0 _ c.next.new.self ∙ more,
      c.in_ok-set_member.ensures.put ∙ (λ i. put (c.deref.ensures i) (inner i) (held.2 i))
          ∙ put_last (λ n. n) count held.0 (c.in-Some.field.now, c.in-Some.length.now) c.next.new.self _ sorted refl,
    )

pub returns : goal.returns
returns c =
    let held = c.loop-field.invariant in
    let all = sym (append-nil held.0) ∙ ap (λ es. held.0 ++ es) (sym c.in-None.ensures.steps.0) ∙ held.1 in
    view-Object c.loop-field.members ∙ ap object (held.2 ∙ ap (λ es. members count (shown (λ n. n) es)) all)
    ∙ whole (λ n. n) count c.args.lengths.now.entries c.iter-field-items.ensures.ordered
