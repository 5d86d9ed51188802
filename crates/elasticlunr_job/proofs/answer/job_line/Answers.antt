use Rattle.elasticlunr_job.proofs.Calls.{commands_of_calls}
use Rattle.elasticlunr_job.proofs.Stops.{ok_more}
use Rattle.elasticlunr_job_format.specs.JobTold.{job_told}
use Rattle.elasticlunr_job.proofs.answer.job_line.Goals as goal

pub returns-clause-readable : goal.returns-clause-readable
returns-clause-readable c = ok_more c.job_made.result _ _ (λ text made. (
  made.0,
  made.1,
  record {
    commands = made.2.commands;
    were = commands_of_calls (job_told c.args.job.now) made.0 made.2.commands made.2.are_commands;
    print = made.2.is.1;
  },
)) c.job_made.ensures.ok
