use Rattle.std.proofs.Common.{inr, subst}
use Rattle.serde_json.specs.View.{view}
use Rattle.elasticlunr_job_format.specs.JobError.{StopsWithReason}
use Rattle.elasticlunr_input.specs.FaultPlaces.{IsPlaceInJob}
use Rattle.elasticlunr_input.specs.RefusedPlaces.{IsInputPlace}
use Rattle.elasticlunr_input.specs.Settled.{settings_told, IsRefusedWith}
use Rattle.elasticlunr_diagnostics.specs.declared.form.Form.TheVariants.{Job}
use Rattle.elasticlunr_input.proofs.LinePlaces.{some_for}
use Rattle.elasticlunr_input.proofs.index.made_of_job.Goals as goal

pub returns-clause-err : goal.returns-clause-err
returns-clause-err g c =
    let settings = settings_told c.args.settings.now in
    let d = view c.in_ok-value.value in
    let fails = subst (StopsWithReason (IsRefusedWith settings d)) c.in-Err-Refused.field-0-is
    c.in-Err-Refused.ensures.err in
    inr (d, c.in_ok-value.ensures.ok, (c.in-Err-Refused.refusal, fails))

pub returns-clause-place : goal.returns-clause-place
returns-clause-place g c =
    let settings = settings_told c.args.settings.now in
    let text = c.args.text.now in
    let d = view c.in_ok-value.value in
    let fails = subst (StopsWithReason (IsRefusedWith settings d)) c.in-Err-Refused.field-0-is
    c.in-Err-Refused.ensures.err in
    some_for (IsPlaceInJob settings text d c.in-Err-Refused.refusal) (IsInputPlace Job settings text)
    c.in_ok-job_refused-in-Err-Refused.field-0.place
    (λ place is. inr (d, c.in_ok-value.ensures.ok, (c.in-Err-Refused.refusal, fails, is)))
    c.in_ok-job_refused-in-Err-Refused.ensures

pub returns-clause-placed : goal.returns-clause-placed
returns-clause-placed g c = λ none. (cc (c.in_ok-value.ensures.ok))

pub returns-in-Ok-clause-noted : goal.returns-in-Ok-clause-noted
returns-in-Ok-clause-noted g c = (view c.in_ok-value.value, c.in_ok-value.ensures.ok, c.in-Ok.ensures.noted)
