use Rattle.std.proofs.Common.{◌≡◌, map, take}
use Rattle.elasticlunr_job_format.specs.JobTold.{document_told}
use Rattle.elasticlunr_job_format.specs.ObjectsTold.{object_told}
use Rattle.elasticlunr_documents.proofs.objects.job_of.Given as goal

-- the documents so far
abbrev pub invariant-loop-object : goal.invariant-loop-object
invariant-loop-object l = map document_told l.docs.items ≡ map object_told (take l.object-index l.fn.objects)
