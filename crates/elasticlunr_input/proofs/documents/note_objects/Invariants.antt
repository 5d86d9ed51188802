use Rattle.std.proofs.Common.{List, map, take}
use Rattle.serde_json.specs.View.{view}
use Rattle.elasticlunr_job_format.specs.Job.{Document}
use Rattle.elasticlunr_job_format.specs.Objects.{AreDocumentsOf}
use Rattle.elasticlunr_job_format.specs.ObjectsTold.{options_told}
use Rattle.elasticlunr_input.specs.NotedAll.{AreNoted, AreToldOf, Told}
use Rattle.elasticlunr_input.proofs.documents.note_objects.Given as goal

-- the documents so far were noted
abbrev pub invariant-loop-item : goal.invariant-loop-item
invariant-loop-item l = (docs : List Document) → AreDocumentsOf (options_told l.options) (map view l.items) docs
    → (told : List Told) × AreToldOf (options_told l.options) (take l.item-index (map view l.items)) told
    × AreNoted l.fn.notes l.notes told
