use Rattle.std.proofs.Common.{map, ap, sym, ◌∙◌, [], Some, None, inl, inr}
use Rattle.serde_json.specs.View.{view, items_of}
use Rattle.elasticlunr_job.proofs.Stops.{ok_more}
use Rattle.elasticlunr_input.specs.Asked.{options_of}
use Rattle.elasticlunr_input.specs.FaultPlaces.{IsPlaceInObjects}
use Rattle.elasticlunr_input.specs.Indexes.{FailsInput}
use Rattle.elasticlunr_input.specs.Refused.{FailObjects}
use Rattle.elasticlunr_input.specs.RefusedPlaces.{IsInputPlace}
use Rattle.elasticlunr_input.specs.Settled.{settings_told}
use Rattle.elasticlunr_json_place.specs.Members.{IsPlaceOf}
use Rattle.elasticlunr_diagnostics.specs.Messages.{IsMemoryOrPlaced}
use Rattle.elasticlunr_diagnostics.specs.declared.form.Form.TheVariants as form
use Rattle.elasticlunr_input.proofs.LinePlaces.{placed_as, some_for}
use Rattle.elasticlunr_input.proofs.Refusals.{refused_for}
use Rattle.elasticlunr_input.proofs.InputLemmas.{err_unless}
use Rattle.elasticlunr_input.proofs.NotingAll.{on_more}
use Rattle.elasticlunr_input.proofs.index.made_of_array.Goals as goal

pub returns-clause-err : goal.returns-clause-err
returns-clause-err g c =
    let items = map view c.deref.result.now in
    let settings = settings_told c.args.settings.now in
    let are = sym c.in-Some.ensures ∙ ap (λ vs. Some (items_of (map view vs))) (sym c.deref.ensures.value) in
    refused_for (FailObjects (options_of settings items) items) (FailsInput form.Objects settings c.args.text.now)
    c.made_of_objects.result
    (λ fails. inr (view c.in_ok-value.value, c.in_ok-value.ensures.ok, inr (items, are, fails)))
    c.made_of_objects.ensures.err

pub returns-clause-place : goal.returns-clause-place
returns-clause-place g c =
    let items = map view c.deref.result.now in
    let settings = settings_told c.args.settings.now in
    let are = sym c.in-Some.ensures ∙ ap (λ vs. Some (items_of (map view vs))) (sym c.deref.ensures.value) in
    placed_as (IsPlaceInObjects c.args.text.now (options_of settings items) items)
    (IsInputPlace form.Objects settings c.args.text.now) c.made_of_objects.result
    (λ place is. inr (view c.in_ok-value.value, c.in_ok-value.ensures.ok, inr (items, are, is)))
    c.made_of_objects.ensures.place

pub returns-in_default-clause-err : goal.returns-in_default-clause-err
returns-in_default-clause-err g c = inr (
  view c.in_ok-value.value,
  c.in_ok-value.ensures.ok,
  inl (sym c.in_default.ensures),
)

pub returns-in_default-clause-place : goal.returns-in_default-clause-place
returns-in_default-clause-place g c =
    let settings = settings_told c.args.settings.now in
    let text = c.args.text.now in
    some_for (IsPlaceOf None [] text) (IsInputPlace form.Objects settings text) c.in_ok-message.message.place
    (λ place is. inr (view c.in_ok-value.value, c.in_ok-value.ensures.ok, inl (sym c.in_default.ensures, is)))
    c.in_ok-message.ensures

pub returns-clause-placed : goal.returns-clause-placed
returns-clause-placed g c = err_unless c.made_of_objects.result _ IsMemoryOrPlaced
    (λ none. (cc (c.in_ok-value.ensures.ok)))

pub returns-in_default-clause-placed : goal.returns-in_default-clause-placed
returns-in_default-clause-placed g c = λ none. (cc (c.in_ok-value.ensures.ok))

pub returns-clause-ok : goal.returns-clause-ok
returns-clause-ok g c =
    let items = map view c.deref.result.now in
    let are = sym c.in-Some.ensures ∙ ap (λ vs. Some (items_of (map view vs))) (sym c.deref.ensures.value) in
    ok_more c.made_of_objects.result _ _
    (λ made is. (view c.in_ok-value.value, c.in_ok-value.ensures.ok, (items, are, is))) c.made_of_objects.ensures.ok

pub returns-clause-noted : goal.returns-clause-noted
returns-clause-noted g c =
    let items = map view c.deref.result.now in
    let are = sym c.in-Some.ensures ∙ ap (λ vs. Some (items_of (map view vs))) (sym c.deref.ensures.value) in
    on_more c.made_of_objects.result c.made_of_objects.ensures.noted
    (λ noted. (view c.in_ok-value.value, c.in_ok-value.ensures.ok, items, are, noted))
