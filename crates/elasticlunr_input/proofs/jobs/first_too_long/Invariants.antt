use Rattle.std.proofs.Common.{map, take}
use Rattle.elasticlunr.specs.Fields.{borrowed}
use Rattle.elasticlunr_job_format.specs.JobTold.{document_told}
use Rattle.elasticlunr_input.specs.FirstFaults.{AllFit}
use Rattle.elasticlunr_input.proofs.jobs.first_too_long.Given as goal

-- the documents so far have no more values than there are fields
abbrev pub invariant-loop-number : goal.invariant-loop-number
invariant-loop-number l = AllFit (borrowed l.job.fields.items) (map document_told (take l.number l.job.docs.items))
