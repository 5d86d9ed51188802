use Rattle.std.proofs.Common.{◌≡◌, Some, None, ap, inl, inr, sym, ◌∙◌, true≢false}
use Rattle.serde_json.specs.View.{view}
use Rattle.elasticlunr_job_format.specs.ObjectsTold.{options_told}
use Rattle.elasticlunr_job_format.specs.Reading.{reading}
use Rattle.elasticlunr_job_format.proofs.Readings.{reading_none, reading_some}
use Rattle.elasticlunr_json_place.specs.Members.{IsPlaceOf}
use Rattle.elasticlunr_json_place.specs.Places.{IsPlaceIn}
use Rattle.elasticlunr_job.proofs.Stops.{ok_more}
use Rattle.elasticlunr_input.specs.FaultPlaces.{object_fault_path}
use Rattle.elasticlunr_input.specs.Inputs.{IsBelow, IsPlaceInLine}
use Rattle.elasticlunr_input.proofs.LinePlaces.{some_below, some_for}
use Rattle.elasticlunr_input.proofs.lines.line_refused.Goals as goal

pub returns-in-Err-2 : goal.returns-in-Err-2
returns-in-Err-2 c =
    let last = c.args.last.now in
    let none = ap reading (sym c.deref.ensures.value)
    ∙ reading_none _ (c.in-Err.ensures.err
    (λ m. true≢false (sym (c.is_memory.ensures.1 m) ∙ c.if-is_memory.false))) in
    ok_more c.line_unread.result _ _
    (λ message is. some_below last.before (IsPlaceIn last.text.items)
    (IsPlaceInLine (options_told c.args.options.now) last.text.items c.args.problem) message.place
    (λ at there. inl (none, there)) is)
    c.line_unread.ensures

pub returns-in-Ok : goal.returns-in-Ok
returns-in-Ok c =
    let last = c.args.last.now in
    let options = options_told c.args.options.now in
    let line = last.text.items in
    let read : reading line ≡ Some (view c.in-Ok.value) = ap reading (sym c.deref.ensures.value)
    ∙ reading_some _ _ c.in-Ok.ensures.ok.0 c.in-Ok.ensures.ok.1 in
    ok_more c.value_refused.result _ _
    (λ message is. some_for (IsBelow last.before (IsPlaceOf None (object_fault_path options c.args.problem) line))
    (IsBelow last.before (IsPlaceInLine options line c.args.problem)) message.place
    (λ place at. (at.0, at.1, inr (view c.in-Ok.value, read, at.2))) is)
    c.value_refused.ensures
