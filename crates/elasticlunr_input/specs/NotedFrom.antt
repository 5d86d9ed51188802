-- What an input leaves in the notes.
use Rattle.std.specs.Prelude.{◌≡◌, ◌++◌, List, Some}
use Rattle.serde_json.specs.Data.{Data}
use Rattle.serde_json.specs.Find.{as_array}
use Rattle.serde_json.specs.View.{items_of}
use Rattle.elasticlunr_text.specs.Text.{Bytes}
use Rattle.elasticlunr_job_format.specs.Lines.{AreLineValues}
use Rattle.elasticlunr_job_format.specs.Reading.{reading}
use Rattle.elasticlunr_diagnostics.specs.declared.form.Form.{Form}
use Rattle.elasticlunr_diagnostics.specs.declared.form.Form.TheVariants.{Job, Objects, Lines}
use Rattle.elasticlunr_input.specs.Asked.{options_of}
use Rattle.elasticlunr_input.specs.Noted.{long_warnings}
use Rattle.elasticlunr_input.specs.NotedAll.{AreNotedObjects, IsNotedJob}
use Rattle.elasticlunr_input.specs.Settled.{Settings}
use Rattle.elasticlunr_input.specs.Warnings.{warnings_of}
use Rattle.elasticlunr_input.specs.declared.notes.Notes.{Notes}

-- the notes after the documents of an input of this form, in order, and then after the fields
abbrev pub IsNotedAs : Form → Settings → Bytes → (old new : Notes) → Type 0
IsNotedAs Job settings text old new = (d : Data) × (reading text ≡ Some d)
    × IsNotedJob settings d old new
IsNotedAs Objects settings text old new = (d : Data) × (reading text ≡ Some d)
    × (items : List Data) × (as_array d ≡ Some (items_of items))
    × AreNotedObjects settings (options_of settings items) items old new
IsNotedAs Lines settings text old new = (items : List Data) × AreLineValues text items
    × AreNotedObjects settings (options_of settings items) items old new

-- these are the warnings of an input of this form up to that of its long words
abbrev pub WarnOfInput : Form → Settings → Bytes → (old : Notes) → List Bytes → Type 0
WarnOfInput form settings text old warnings = (noted : Notes)
    × IsNotedAs form settings text old noted
    × (warnings ≡ warnings_of noted ++ long_warnings noted.longest noted.longer)
