-- How a document that is not added stops all; for private clauses.
use Rattle.std.specs.Prelude.{ℕ}
use Rattle.elasticlunr_job_format.specs.declared.objects.AddError.{AddError}
use Rattle.elasticlunr_job_format.specs.declared.objects.AddError.TheVariants as add
use Rattle.elasticlunr_documents.specs.declared.objects.ObjectsError.{ObjectsError}
use Rattle.elasticlunr_documents.specs.declared.objects.ObjectsError.TheVariants as error

-- how a document with this number that is not added stops all
abbrev pub stop_at : ℕ → AddError → ObjectsError
stop_at place add.Memory = error.Memory
stop_at place (add.ObjectFault problem) = error.Document place problem
