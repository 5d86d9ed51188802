use Rattle.std.proofs.Common.{[], ◌++◌, ◌∷◌, sym, ap, subst, ◌∙◌, append_assoc, append-nil, string_cmp}
use Rattle.std.specs.List.Sorted.{IsStrictlySortedBy}
use Rattle.std.specs.Map.{keys_of}
use Rattle.serde_json.specs.Data.{object, put}
use Rattle.serde_json.specs.View.{members_view}
use Rattle.serde_json.proofs.Views.{view-Object}
use Rattle.elasticlunr_json.specs.Maps.{members}
use Rattle.elasticlunr_store.specs.Options.{field_value}
use Rattle.elasticlunr_json.proofs.Sorted.{shown, put_last, whole}
use Rattle.elasticlunr_store.proofs.config.value.fields_value.Goals as goal

pub loop-name-init : goal.loop-name-init
loop-name-init c = (
  [],
  c.into_iter-name-iterator.ensures.into_iter_gives
      ∙ c.iter-name-items.ensures.rest,
  ap members_view c.new-members.ensures.empty,
)

pub loop-name-preserved : goal.loop-name-preserved
loop-name-preserved c =
    let held = c.loop-name.invariant in
    let more = ap (λ es. held.0 ++ es) (sym c.in-Some.ensures.steps) ∙ held.1 in
    let sorted = subst (λ es. IsStrictlySortedBy string_cmp (keys_of es)) (sym more) c.iter-name-items.ensures.ordered
    in (
      held.0 ++ (c.in-Some.name.now, c.in-Some.field.now) ∷ [],
      append_assoc held.0 _ c.next.new.self ∙ more,
      c.in_ok-set_member.ensures.put ∙ (λ i. put (c.deref.ensures i) (c.in_ok-field_value.ensures i) (held.2 i))
          ∙ put_last (λ field. field) field_value held.0 (c.in-Some.name.now, c.in-Some.field.now) c.next.new.self _
          sorted (λ i. field_value c.in-Some.field.now),
    )

pub returns : goal.returns
returns c =
    let held = c.loop-name.invariant in
    let all = sym (append-nil held.0) ∙ ap (λ es. held.0 ++ es) (sym c.in-None.ensures.steps.0) ∙ held.1 in
    view-Object c.loop-name.members ∙ ap object (held.2 ∙ ap (λ es. members field_value (shown (λ field. field) es))
    all) ∙ whole (λ field. field) field_value c.args.fields.now.entries c.iter-name-items.ensures.ordered
