use Rattle.std.proofs.Common.{map, take}
use Rattle.serde_json.specs.View.{view}
use Rattle.elasticlunr_job_format.specs.FaultSteps.{AreTexts}
use Rattle.elasticlunr_job_format.proofs.fault.first_no_text.Given as goal

-- the values so far are texts
abbrev pub invariant-loop-i : goal.invariant-loop-i
invariant-loop-i l = AreTexts (map view (take l.i l.fn.items))
