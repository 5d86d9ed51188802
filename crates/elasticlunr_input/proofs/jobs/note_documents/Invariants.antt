use Rattle.std.proofs.Common.{map, take}
use Rattle.elasticlunr_job_format.specs.JobTold.{document_told}
use Rattle.elasticlunr_input.specs.NotedAll.{AreNoted, told_of_job}
use Rattle.elasticlunr_input.proofs.jobs.note_documents.Given as goal

-- the documents so far were noted
abbrev pub invariant-loop-doc : goal.invariant-loop-doc
invariant-loop-doc l = AreNoted l.initial.notes l.notes
    (take l.doc-index (told_of_job (map document_told l.doc-items)))
