use Rattle.std.proofs.Common.{IsSome, Contains, refl, subst, sym}
use Rattle.serde_json.specs.Find.{get}
use Rattle.serde_json.specs.View.{view}
use Rattle.elasticlunr_job_format.specs.Job.{job_keys}
use Rattle.elasticlunr_job_format.proofs.JobFaults.{if_none}
use Rattle.elasticlunr_job_format.proofs.KeyTests.{keys_fit, other_there}
use Rattle.elasticlunr_job_format.proofs.fault.key_fault.Goals as goal

pub returns-in_err-key-clause-none : goal.returns-in_err-key-clause-none
returns-in_err-key-clause-none c = if_none c.from_residual.result
    (keys_fit _ c.in-Some.members.now.entries c.in-Some.ensures c.in_err-key.ensures)

pub returns-clause-some : goal.returns-clause-some
returns-clause-some c = (
  subst (λ k. IsSome (get k (view c.args.value.now)) × (¬ Contains job_keys k)) (sym c.as_str.ensures.value)
      (other_there _ c.in-Some.members.now.entries c.in_ok-key.key.now c.in-Some.ensures c.in_ok-key.ensures),
  refl,
)

pub returns-clause-none : goal.returns-clause-none
returns-clause-none c = tt
