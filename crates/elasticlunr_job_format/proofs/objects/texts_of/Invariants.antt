use Rattle.std.proofs.Common.{take}
use Rattle.serde_json.specs.View.{view}
use Rattle.elasticlunr_job_format.specs.ObjectsTold.{HaveTextsOr, options_told, texts_told}
use Rattle.elasticlunr_job_format.proofs.objects.texts_of.Given as goal

-- the texts of the fields so far
abbrev pub invariant-loop-i : goal.invariant-loop-i
invariant-loop-i l = HaveTextsOr (options_told l.fn.options) (view l.fn.value)
    (texts_told (take l.i l.field-items)) l.found.items
