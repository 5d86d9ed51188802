-- Why no index of lines is printed.
use Rattle.std.proofs.Common.{◌≡◌, ◌⊎◌, ℕ, Bool, false, Option, Some, None, inl, inr, Result, Ok, Err, IfErr, sym}
use Rattle.std.proofs.Common.{subst}
use Rattle.std.specs.Result.{IsErrAnd}
use Rattle.serde_json.specs.Data.{Data}
use Rattle.elasticlunr_text.specs.Text.{Bytes}
use Rattle.elasticlunr_text.specs.IndexError.{IndexError}
use Rattle.elasticlunr_text.specs.IndexError.TheVariants as index
use Rattle.elasticlunr.specs.Fields.{all_differ}
use Rattle.elasticlunr_job.specs.Answer.{NamesLanguage}
use Rattle.elasticlunr_documents.specs.Lines.{FailsLines, HasFitOptions, HasLineProblem, IfDevice, StopsAtLine}
use Rattle.elasticlunr_documents.specs.LinesTold.{index_error_of, IsTaken, IsUnread, IsUnreadAfter, StopsFilling}
use Rattle.elasticlunr_documents.specs.LinesTold.{StopsOn, StopsReading}
use Rattle.elasticlunr_job_format.specs.Lines.{is_blank}
use Rattle.elasticlunr_job_format.specs.Objects.{Options, HasProblem}
use Rattle.elasticlunr_job_format.specs.Reading.{reading}
use Rattle.elasticlunr_documents.specs.declared.lines.LastLine.{LastLine}
use Rattle.elasticlunr_documents.specs.declared.lines.LinesError.{LinesError}
use Rattle.elasticlunr_documents.specs.declared.lines.LinesError.TheVariants.{Memory, Refused, Document, Device}
use Rattle.elasticlunr_documents.specs.declared.lines.LinesError.TheVariants.{TooManyLines}
use Rattle.elasticlunr_job_format.specs.declared.objects.ObjectFault.{ObjectFault}
use Rattle.elasticlunr_job_format.specs.declared.objects.ObjectFault.TheVariants.{NotJson}

-- the exit of a call
pub exit_for : {T E : Type 0} (r : Result T E) (P : E → Type 0) (e : E) → IsErrAnd r (λ y. y ≡ e) → P e → IfErr r P
exit_for (Ok x) P e is p = tt
exit_for (Err x) P e is p = subst P (sym is) p

-- the value of a line is none
pub unread_after : (number : ℕ) (left now : Option Bytes) (line : Bytes) (more : Bool) → IsTaken left now line more
    → is_blank line ≡ false → (e : LinesError)
    → StopsOn number (λ problem. (reading line ≡ None) × (problem ≡ NotJson)) e
    → StopsReading number (IsUnreadAfter left now line) e
unread_after number left now line more taken filled Memory on = tt
unread_after number left now line more taken filled (Device failed) on = tt
unread_after number left now line more taken filled (Refused refusal) on = absurd on
unread_after number left now line more taken filled TooManyLines on = absurd on
unread_after number left now line more taken filled (Document place problem) on =
    (on.0, (more, taken, filled, on.1.0, on.1.1))

-- no reader failed
pub on_line : (number : ℕ) (Has : ObjectFault → Type 0) (e : LinesError) → StopsOn number Has e
    → StopsReading number Has e
on_line number Has Memory on = tt
on_line number Has (Device failed) on = tt
on_line number Has (Refused refusal) on = absurd on
on_line number Has TooManyLines on = absurd on
on_line number Has (Document place problem) on = on

-- a line with a problem
pub stops_filling : {T : Type 0} (r : Result T LinesError) (options : Options) (left : Option Bytes) (last : LastLine)
    (number : ℕ) (Has : ObjectFault → Type 0) (e : LinesError) → IsErrAnd r (λ y. y ≡ e)
    → ((problem : ObjectFault) → Has problem → StopsAtLine options left last number problem)
    → StopsReading number Has e → IfErr r (StopsFilling options left last)
stops_filling r options left last number Has e is first stops = exit_for r (StopsFilling options left last) e is
    (at e stops) where
      at : (stop : LinesError) → StopsReading number Has stop → StopsFilling options left last stop
      at Memory on = tt
      at (Device failed) on = tt
      at (Refused refusal) on = absurd on
      at TooManyLines on = absurd on
      at (Document place problem) on = subst (λ n. StopsAtLine options left last n problem) (sym on.0) (first problem on.1)

-- which is this: it is not JSON, or its value is no document
pub unread_line : (options : Options) (line : Bytes) (problem : ObjectFault) → (reading line ≡ None)
    × (problem ≡ NotJson) → HasLineProblem options (reading line) problem
unread_line options line problem is = subst (λ read. HasLineProblem options read problem) (sym is.0) is.1

pub no_document : (options : Options) (line : Bytes) (d : Data) (problem : ObjectFault) → reading line ≡ Some d
    → HasProblem options d problem → HasLineProblem options (reading line) problem
no_document options line d problem read has = subst (λ it. HasLineProblem options it problem) (sym read) has

-- the exit of the fields, where a name may stand twice
pub twice_exit : {T : Type 0} (r : Result T LinesError) (options : Options) (left : Option Bytes) (last : LastLine)
    (e : IndexError) → IsErrAnd r (λ y. y ≡ index_error_of e) → NamesLanguage options.language
    → (e ≡ index.DuplicateField → all_differ options.fields ≡ false)
    → (e ≡ index.DuplicateField) ⊎ (e ≡ index.Memory) → IfErr r (FailsLines options left last)
twice_exit r options left last e is named twice errors = exit_for r (FailsLines options left last) (index_error_of e) is
    (elim errors [
      | inl d ↦ subst (λ x. FailsLines options left last (index_error_of x)) (sym d) (named, twice d)
      | inr m ↦ subst (λ x. FailsLines options left last (index_error_of x)) (sym m) tt
    ])

-- with options that fit, it is for a line
pub fails_lines : (options : Options) (left : Option Bytes) (last : LastLine) (e : LinesError) → HasFitOptions options
    → StopsFilling options left last e → FailsLines options left last e
fails_lines options left last Memory fit on = tt
fails_lines options left last (Device failed) fit on = tt
fails_lines options left last (Refused refusal) fit on = absurd on
fails_lines options left last (Document place problem) fit on = (fit, on)
fails_lines options left last TooManyLines fit on = (fit, on)

-- what stops on a line is no failure of the reader
pub on_no_device : (P : Type 0) (number : ℕ) (Has : ObjectFault → Type 0) (e : LinesError) → StopsOn number Has e
    → IfDevice P e
on_no_device P number Has Memory stops = tt
on_no_device P number Has (Document place problem) stops = tt
on_no_device P number Has (Refused _) stops = absurd stops
on_no_device P number Has TooManyLines stops = absurd stops
on_no_device P number Has (Device _) stops = absurd stops

-- nor is a refusal of the builder
pub index_no_device : (P : Type 0) (e : IndexError) → IfDevice P (index_error_of e)
index_no_device P index.DuplicateField = tt
index_no_device P _ = tt

-- a line that was not read, at any number
pub at_any_line : (number : ℕ) (Has : ObjectFault → Type 0) (e : LinesError) → IsUnread e → StopsReading number Has e
at_any_line number Has Memory is = tt
at_any_line number Has (Device _) is = tt
at_any_line number Has (Refused _) is = absurd is
at_any_line number Has TooManyLines is = absurd is
at_any_line number Has (Document place problem) is = absurd is
