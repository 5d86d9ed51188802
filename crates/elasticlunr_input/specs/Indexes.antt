-- The index of an input, and why there is none.
use Rattle.std.specs.Prelude.{◌≡◌, ◌⊎◌, Option, Some, None}
use Rattle.serde_json.specs.Data.{Data}
use Rattle.elasticlunr_text.specs.Text.{Bytes}
use Rattle.elasticlunr_job.specs.Answer.{IsPrintedLine, OfIndex}
use Rattle.elasticlunr_job_format.specs.Reading.{reading}
use Rattle.elasticlunr_diagnostics.specs.Forms.{asked_or_told}
use Rattle.elasticlunr_diagnostics.specs.Messages.{IsMemoryOr, IsMemoryOrPlaced}
use Rattle.elasticlunr_diagnostics.specs.declared.form.Form.{Form}
use Rattle.elasticlunr_diagnostics.specs.declared.form.Form.TheVariants.{Job, Objects, Lines}
use Rattle.elasticlunr_diagnostics.specs.declared.message.InputError.{InputError}
use Rattle.elasticlunr_input.specs.Asked.{IsArrayMadeWith}
use Rattle.elasticlunr_input.specs.Lines.{IsLinesMadeWith}
use Rattle.elasticlunr_input.specs.Refused.{FailsJob, FailsArray, FailLines}
use Rattle.elasticlunr_input.specs.Settled.{Settings, IsMadeWith}

-- a text of this form has to be JSON, and is not
abbrev pub IsNotJson : Form → Bytes → Type 0
IsNotJson Lines text = ⊥
IsNotJson _ text = reading text ≡ None

-- this holds of the index of an input of this form
abbrev pub IsMadeAs : Form → Settings → Bytes → OfIndex → Type 0
IsMadeAs Job settings text Is = (d : Data) × (reading text ≡ Some d) × IsMadeWith settings d Is
IsMadeAs Objects settings text Is = (d : Data) × (reading text ≡ Some d)
    × IsArrayMadeWith settings d Is
IsMadeAs Lines settings text Is = IsLinesMadeWith settings text Is

-- an input of this form fails a check
abbrev pub FailsAs : Form → Settings → Bytes → Type 0
FailsAs Job settings text = (d : Data) × (reading text ≡ Some d) × FailsJob settings d
FailsAs Objects settings text = (d : Data) × (reading text ≡ Some d) × FailsArray settings d
FailsAs Lines settings text = FailLines settings text

-- this holds of the index of an input in the form that it has
abbrev pub IsMadeFrom : Option Form → Settings → Bytes → OfIndex → Type 0
IsMadeFrom asked settings text Is = IsMadeAs (asked_or_told asked text) settings text Is

-- the text of the index of an input in the form that it has, and a line feed
abbrev pub IsIndexOf : Option Form → Settings → Bytes → Bytes → Type 0
IsIndexOf asked settings text line = IsMadeFrom asked settings text (IsPrintedLine line)

-- an input of this form is not JSON, or fails a check
abbrev pub FailsInput : Form → Settings → Bytes → Type 0
FailsInput form settings text = IsNotJson form text ⊎ FailsAs form settings text

abbrev pub IsRefusedInput : Form → Settings → Bytes → InputError → Type 0
IsRefusedInput form settings text = IsMemoryOr (FailsInput form settings text)

-- where a text of this form has to be JSON, and is not, it is refused with a place, or memory runs
-- out
abbrev pub IsPlacedIfNotJson : Form → Bytes → InputError → Type 0
IsPlacedIfNotJson form text trouble = IsNotJson form text → IsMemoryOrPlaced trouble
