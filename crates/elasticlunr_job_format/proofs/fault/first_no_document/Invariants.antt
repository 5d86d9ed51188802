use Rattle.std.proofs.Common.{map, take}
use Rattle.serde_json.specs.View.{view}
use Rattle.elasticlunr_job_format.specs.FaultSteps.{AreDocuments}
use Rattle.elasticlunr_job_format.proofs.fault.first_no_document.Given as goal

-- the values so far are documents
abbrev pub invariant-loop-i : goal.invariant-loop-i
invariant-loop-i l = AreDocuments (map view (take l.i l.fn.items))
