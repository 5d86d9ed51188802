use Rattle.std.proofs.Common.{map, take}
use Rattle.serde_json.specs.View.{view}
use Rattle.elasticlunr_job_format.specs.Objects.{AreDocumentsOf}
use Rattle.elasticlunr_job_format.specs.ObjectsTold.{object_told, options_told}
use Rattle.elasticlunr_documents.proofs.objects.objects_of.Given as goal

-- the values so far are these documents
abbrev pub invariant-loop-i : goal.invariant-loop-i
invariant-loop-i l = AreDocumentsOf (options_told l.fn.options) (map view (take l.i l.fn.items))
    (map object_told l.objects.items)
