-- The calls that a job asks for.
use Rattle.std.specs.Prelude.{List, [], ◌∷◌, ◌++◌, map, if◌then◌else◌}
use Rattle.elasticlunr.specs.Calls.{Call, adding, removing, compacting}
use Rattle.elasticlunr_job_format.specs.Job.{Job}

-- its documents are added, its references removed, and the index is compacted if it asks for that
abbrev pub job_calls : Job → List Call
job_calls job = map (λ doc. adding doc.reference doc.values) job.docs ++ map removing job.remove ++
    (if job.compact then compacting ∷ [] else [])
