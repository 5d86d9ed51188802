use Rattle.elasticlunr_job_format.proofs.JobFaults.{fault_no_job}
use Rattle.elasticlunr_job_format.proofs.laws.a_fault_is_no_job.Goals as goal

pub returns : goal.returns
returns c = fault_no_job
