-- What was done to an index for a job.
-- `made` relates a reference and values to the document that the index makes of them; `old` and `new` are what it stood
-- for before, and what it represents now.
use Rattle.std.proofs.Common.{List, map}
use Rattle.std.specs.List.{AllZip}
use Rattle.elasticlunr_text.specs.Text.{Bytes}
use Rattle.elasticlunr.specs.Calls.{followed_by}
use Rattle.elasticlunr.specs.History.{Command, Commands, Document, add}
use Rattle.elasticlunr_job.specs.Commands.{in_order}
use Rattle.elasticlunr_job_format.specs.Job as asked
use Rattle.elasticlunr_job_format.specs.Job.{Job}

abbrev pub Makes : Type 1
Makes = Bytes → List Bytes → Document → Type 0

abbrev pub Standing : Type 1
Standing = Commands → Type 0

-- whatever it stood for, it represents that and these commands after it
pub record Follows (old new : Standing) (more : List Command) : Type 0 where
  pub stands : (commands : Commands) → old commands → new (followed_by commands more)

-- the documents are made of those of a job, in order
abbrev pub AreMade : (made : Makes) → List asked.Document → List Document → Type 0
AreMade made docs documents = AllZip (λ doc document. made doc.reference doc.values document) docs documents

-- the documents were added, in order
pub record HasTaken (made : Makes) (old new : Standing) (docs : List asked.Document) : Type 0 where
  pub documents : List Document
  pub each : AreMade made docs documents
  pub follows : Follows old new (map add documents)

-- all was done that the job commands
pub record HasDone (made : Makes) (old new : Standing) (job : Job) : Type 0 where
  pub documents : List Document
  pub each : AreMade made job.docs documents
  pub follows : Follows old new (in_order job documents)
