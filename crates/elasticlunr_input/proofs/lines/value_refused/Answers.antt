use Rattle.std.proofs.Common.{None, IfSome, subst}
use Rattle.elasticlunr_job_format.specs.ObjectsTold.{options_told}
use Rattle.elasticlunr_json_place.specs.Members.{IsPlaceOf}
use Rattle.elasticlunr_input.specs.FaultPlaces.{object_fault_path}
use Rattle.elasticlunr_input.proofs.LinePlaces.{lowered_below}
use Rattle.elasticlunr_input.proofs.lines.value_refused.Goals as goal

pub returns : goal.returns
returns c =
    let last = c.args.last.now in
    let line = c.deref.ensures.value in
    lowered_below last.before (IsPlaceOf None (object_fault_path (options_told c.args.options.now) c.args.problem)
    last.text.items) c.in_ok-place.place c.lowered.result.place
    (subst (λ bytes. IfSome c.in_ok-place.place
    (IsPlaceOf None (object_fault_path (options_told c.args.options.now) c.args.problem) bytes)) line
    c.in_ok-place.ensures) c.lowered.ensures.place
