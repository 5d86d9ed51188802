use Rattle.elasticlunr_job.specs.Calls.{job_calls}
use Rattle.elasticlunr_job.proofs.Calls.{commands_of_calls}
use Rattle.elasticlunr_job.proofs.laws.documents_of_a_job_are_read.Goals as goal

pub returns-clause-calls : goal.returns-clause-calls
returns-clause-calls c = commands_of_calls

pub returns-clause-read : goal.returns-clause-read
returns-clause-read c = λ job language commands are.
    c.documents_of_calls_are_read.ensures language job.fields job.reference_field (job_calls job) commands
    (commands_of_calls job language commands are)
