-- The form of an input.
use Rattle.std.specs.Prelude.{◌&&◌, ◌||◌, ◌==◌, Bool, false, not, Option, option_map, unwrap_or}
use Rattle.std.specs.Prelude.{find, codes, is_some, if◌then◌else◌}
use Rattle.serde_json.specs.Data.{Data}
use Rattle.serde_json.specs.Find.{as_object, get}
use Rattle.elasticlunr_text.specs.Text.{Bytes}
use Rattle.elasticlunr_job_format.specs.Reading.{reading}
use Rattle.elasticlunr_job_format.specs.Lines.{is_filled, is_space, lines_of}
use Rattle.elasticlunr_diagnostics.specs.declared.form.Form.{Form}
use Rattle.elasticlunr_diagnostics.specs.declared.form.Form.TheVariants.{Job, Objects, Lines}

-- the word that asks for a form
abbrev pub form_word : Form → Bytes
form_word Job = codes "job"
form_word Objects = codes "objects"
form_word Lines = codes "lines"

-- the value has a member under this key
abbrev pub has : Bytes → Data → Bool
has key d = is_some (get key d)

-- it is an object with neither documents nor fields
abbrev pub is_object_line : Data → Bool
is_object_line d = is_some (as_object d) && not (has (codes "docs") d || has (codes "fields") d)

-- the first byte that is no space is `[`
abbrev pub begins_an_array : Bytes → Bool
begins_an_array line = unwrap_or (option_map (λ b. b == 91) (find (λ b. not (is_space b)) line))
    false

-- a first line with this value is one of lines, or a whole job
abbrev pub value_form : Data → Form
value_form d = if is_object_line d then Lines else Job

-- a first line begins an array of objects, or has a value, or begins a job
abbrev pub line_form : Bytes → Form
line_form line = if begins_an_array line then Objects else unwrap_or
    (option_map value_form (reading line)) Job

-- the form of a text, by its first line that is not blank
abbrev pub told_form : Bytes → Form
told_form text = unwrap_or (option_map line_form (find is_filled (lines_of text))) Job

-- the form that is asked for, or else that of the text
abbrev pub asked_or_told : Option Form → Bytes → Form
asked_or_told asked text = unwrap_or asked (told_form text)
