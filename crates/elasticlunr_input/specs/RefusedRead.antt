-- An input that is refused, as far as it was read.
use Rattle.std.specs.Prelude.{◌≡◌, ◌⊎◌, ◌++◌, ⊤, IfSome, IsSome}
use Rattle.elasticlunr_text.specs.Text.{Bytes}
use Rattle.elasticlunr_job_format.specs.LineRead.{AreWhole, EndsLine}
use Rattle.elasticlunr_documents.specs.Lines.{HasTooManyLines}
use Rattle.elasticlunr_input.specs.Indexes.{FailsInput, IsNotJson}
use Rattle.elasticlunr_input.specs.Refused.{FailLines}
use Rattle.elasticlunr_input.specs.RefusedPlaces.{IsInputPlace, IsLinesPlace}
use Rattle.elasticlunr_input.specs.Settled.{Settings}
use Rattle.elasticlunr_diagnostics.specs.declared.form.Form.{Form}
use Rattle.elasticlunr_diagnostics.specs.declared.form.Form.TheVariants.{Lines}
use Rattle.elasticlunr_diagnostics.specs.declared.message.InputError.{InputError}
use Rattle.elasticlunr_diagnostics.specs.declared.message.InputError.TheVariants.{Refused, Device}
use Rattle.elasticlunr_diagnostics.specs.declared.message.InputError.TheVariants.{TooManyLines}

-- the text begins with these lines
abbrev pub BeginsWith : (text read : Bytes) → Type 0
BeginsWith text read = (rest : Bytes) × (AreWhole read ⊎ EndsLine rest) × (text ≡ read ++ rest)

-- what has to be read of an input of this form to refuse it: of lines some, of the others all
abbrev pub IsReadOf : Form → (text read : Bytes) → Type 0
IsReadOf Lines text read = BeginsWith text read
IsReadOf _ text read = read ≡ text

-- what was read of an input of this form is refused, and the place is that of what it is refused
-- for, and is known where it has to be JSON and is not; or its form is lines, and there are too
-- many; or memory runs out, or the reader failed
abbrev pub IsRefusedFrom : Form → Settings → Bytes → InputError → Type 0
IsRefusedFrom form settings text (Refused message) = (read : Bytes) × IsReadOf form text read
    × FailsInput form settings read
    × IfSome message.place (IsInputPlace form settings read)
    × (IsNotJson form read → IsSome message.place)
IsRefusedFrom form settings text TooManyLines = (form ≡ Lines) × HasTooManyLines text
IsRefusedFrom form settings text _ = ⊤

-- the same of lines
abbrev pub AreRefusedFrom : Settings → Bytes → InputError → Type 0
AreRefusedFrom settings text (Refused message) = (read : Bytes) × BeginsWith text read
    × FailLines settings read × IfSome message.place (IsLinesPlace settings read)
AreRefusedFrom settings text TooManyLines = HasTooManyLines text
AreRefusedFrom settings text _ = ⊤

-- where it is said that a read failed, this holds
abbrev pub IfDevice : Type 0 → InputError → Type 0
IfDevice P (Device _) = P
IfDevice P _ = ⊤
