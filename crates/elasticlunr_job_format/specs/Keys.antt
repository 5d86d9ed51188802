-- The keys of a job, as a test; for private clauses.
use Rattle.std.specs.Prelude.{ℕ, List, Bool, bytes_eq}
use Rattle.std.specs.List.{list_any}
use Rattle.elasticlunr_job_format.specs.Job.{job_keys}

abbrev pub is_job_key : List ℕ → Bool
is_job_key key = list_any (bytes_eq key) job_keys
