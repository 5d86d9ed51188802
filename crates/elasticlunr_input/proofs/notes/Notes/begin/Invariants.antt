use Rattle.std.proofs.Common.{◌≡◌, ◌∷◌, take}
use Rattle.std.specs.BTreeSet.{contains_text}
use Rattle.elasticlunr_job_format.specs.ObjectsTold.{texts_told}
use Rattle.elasticlunr_text.specs.Text.{Bytes, is_listed}
use Rattle.elasticlunr_input.proofs.notes.Notes.begin.Given as goal

-- the keys so far are known
abbrev pub invariant-loop-field : goal.invariant-loop-field
invariant-loop-field l = (key : Bytes) → contains_text l.known key
    ≡ is_listed key (l.options.reference_key.now ∷ take l.field-index (texts_told l.options.fields.items))
