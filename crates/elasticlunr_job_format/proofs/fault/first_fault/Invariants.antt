use Rattle.std.proofs.Common.{◌≤◌}
use Rattle.serde_json.specs.View.{view}
use Rattle.elasticlunr_job_format.specs.FaultSteps.{IsFitUnder}
use Rattle.elasticlunr_job_format.specs.JobKeys.{key_place}
use Rattle.elasticlunr_job_format.specs.declared.key.Key.{Key}
use Rattle.elasticlunr_job_format.proofs.fault.first_fault.Given as goal

-- the members so far are what is wanted
abbrev pub invariant-loop-key : goal.invariant-loop-key
invariant-loop-key l = (k : Key) → key_place k ≤ l.key-index → IsFitUnder (view l.fn.value) k
