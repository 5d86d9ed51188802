use Rattle.std.proofs.Common.{map, subst, ◌∙◌}
use Rattle.serde_json.specs.View.{view}
use Rattle.elasticlunr_documents.specs.Objects.{IsMadeOfObjects}
use Rattle.elasticlunr_job_format.specs.Objects as spec
use Rattle.elasticlunr_job_format.specs.ObjectsTold.{options_told}
use Rattle.elasticlunr_input.specs.Asked.{options_of}
use Rattle.elasticlunr_input.specs.FaultPlaces.{IsPlaceInObjects}
use Rattle.elasticlunr_input.specs.NotedAll.{AreNotedObjects, HasBegun}
use Rattle.elasticlunr_input.specs.Refused.{FailObjects}
use Rattle.elasticlunr_input.specs.Settled.{settings_told}
use Rattle.elasticlunr_input.proofs.LinePlaces.{placed_again}
use Rattle.elasticlunr_input.proofs.Refusals.{refused_again}
use Rattle.elasticlunr_input.proofs.index.made_of_objects.Goals as goal

pub returns-in_err-made-clause-err : goal.returns-in_err-made-clause-err
returns-in_err-made-clause-err g c =
    let items = map view c.args.items.now in
    refused_again (FailObjects (options_told c.in_ok-options.options) items)
    (FailObjects (options_of (settings_told c.args.settings.now) items) items) c.in_err-made.field-0.0
    c.from_residual-in_err-made.result
    (λ fails. subst (λ (o : spec.Options). FailObjects o items) (c.in_ok-options.ensures (c.as_str.ensures.value ∙ c.in_ok-reference.ensures)) fails)
    c.from_residual-in_err-made.ensures.1 c.in_err-made.ensures.err

pub returns-clause-ok : goal.returns-clause-ok
returns-clause-ok g c = subst (λ (o : spec.Options). IsMadeOfObjects o (map view c.args.items.now)
    (g.M.Make.makes c.args.maker.now c.in_ok-made.made)) (c.in_ok-options.ensures (c.as_str.ensures.value ∙ c.in_ok-reference.ensures)) c.in_ok-made.ensures.ok

pub returns-in_err-made-clause-place : goal.returns-in_err-made-clause-place
returns-in_err-made-clause-place g c =
    let items = map view c.args.items.now in
    let place_in = λ (o : spec.Options). IsPlaceInObjects c.args.text.now o items in
    placed_again (place_in (options_told c.in_ok-options.options))
    (place_in (options_of (settings_told c.args.settings.now) items)) c.in_err-made.field-0.0
    c.from_residual-in_err-made.result
    (λ place is. subst (λ (o : spec.Options). place_in o place) (c.in_ok-options.ensures (c.as_str.ensures.value ∙ c.in_ok-reference.ensures)) is)
    c.from_residual-in_err-made.ensures.1 c.in_err-made.ensures.place

pub returns-clause-noted : goal.returns-clause-noted
returns-clause-noted g c =
    let options = options_told c.in_ok-options.options in
    let settings = settings_told c.args.settings.now in
    let items = map view c.args.items.now in
    let old = c.args.notes.now in
    let begun : HasBegun settings options old c.begin.new.self = record {
      rules = record {
        longest = c.in_ok-begin.ensures.longest;
        stored = c.in_ok-begin.ensures.stored;
        seen = c.begin.ensures.seen;
      };
      known = c.in_ok-begin.ensures.known;
    } in
    let docs = c.in_ok-made.ensures.ok in
    let noted = c.in_ok-note_objects.ensures docs.0 docs.1 in
    subst (λ (o : spec.Options). AreNotedObjects settings o items old c.note_objects.new.notes)
    (c.in_ok-options.ensures (c.as_str.ensures.value ∙ c.in_ok-reference.ensures))
    (c.begin.new.self, begun, noted.0, noted.1, noted.2)
