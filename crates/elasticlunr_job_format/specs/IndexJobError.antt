-- How a refusal of the index stops a run; for private clauses.
use Rattle.elasticlunr_error.specs.declared.error.IndexError.{IndexError}
use Rattle.elasticlunr_error.specs.declared.error.IndexError.TheVariants.{DuplicateField}
use Rattle.elasticlunr_error.specs.declared.error.IndexError.TheVariants.{TooManyValues}
use Rattle.elasticlunr_job_format.specs.declared.outcome.Refusal.TheVariants as refusal
use Rattle.elasticlunr_job_format.specs.declared.outcome.JobError.{JobError}
use Rattle.elasticlunr_job_format.specs.declared.outcome.JobError.TheVariants as stop

-- the others do not come from a job
abbrev pub job_error_of : IndexError → JobError
job_error_of DuplicateField = stop.Refused refusal.DuplicateField
job_error_of TooManyValues = stop.Refused refusal.TooManyValues
job_error_of _ = stop.Memory
