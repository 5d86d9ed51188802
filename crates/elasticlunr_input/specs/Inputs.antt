-- The head of an input that is read, and a line that is refused; for private clauses.
use Rattle.std.specs.Prelude.{◌≡◌, ◌⊎◌, ◌++◌, ◌∷◌, ◌==◌, ⊤, ℕ, List, [], true, Option, Some, None}
use Rattle.std.specs.Prelude.{IfSome, count_by}
use Rattle.serde_json.specs.Data.{Data}
use Rattle.elasticlunr_text.specs.Text.{Bytes}
use Rattle.elasticlunr_job_format.specs.LineRead.{AreWhole, HasNoFeed, fed}
use Rattle.elasticlunr_job_format.specs.Lines.{filled_lines, is_filled}
use Rattle.elasticlunr_job_format.specs.Objects.{Options, HasProblem}
use Rattle.elasticlunr_job_format.specs.Reading.{reading}
use Rattle.elasticlunr_job_format.specs.declared.objects.ObjectFault.{ObjectFault}
use Rattle.elasticlunr_job_format.specs.declared.outcome.Refusal.{Refusal}
use Rattle.elasticlunr_job.specs.Answer.{FailsAt}
use Rattle.elasticlunr_documents.specs.Lines.{HasTooManyLines, StopsAtLine}
use Rattle.elasticlunr_documents.specs.Objects.{job_of}
use Rattle.elasticlunr_documents.specs.declared.lines.LastLine.{LastLine}
use Rattle.elasticlunr_documents.specs.declared.lines.LinesError.{LinesError}
use Rattle.elasticlunr_documents.specs.declared.lines.LinesError.TheVariants as lines_error
use Rattle.elasticlunr_json_place.specs.Members.{IsPlaceOf}
use Rattle.elasticlunr_json_place.specs.Places.{IsPlaceIn}
use Rattle.elasticlunr_json_place.specs.Whole.{below}
use Rattle.elasticlunr_json_place.specs.declared.place.Place.{Place}
use Rattle.elasticlunr_input.specs.FaultPlaces.{object_fault_path}
use Rattle.elasticlunr_diagnostics.specs.Messages.{IsLowered}
use Rattle.elasticlunr_diagnostics.specs.declared.message.InputError.{InputError}
use Rattle.elasticlunr_diagnostics.specs.declared.message.InputError.TheVariants as trouble

-- the line that was read last ends the head of a text, and all before it is blank; it is not, or
-- nothing is after it
pub record IsHeadOf (head rest line : Bytes) (feeds : ℕ) : Type 0 where
  pub before : Bytes
  pub whole : AreWhole before
  pub blank : filled_lines before ≡ []
  pub feeds_are : feeds ≡ count_by (λ b. b == 10) before
  pub no_feed : HasNoFeed line
  pub ends : ((head ≡ before ++ fed line) × (is_filled line ≡ true))
      ⊎ ((head ≡ before ++ line) × (rest ≡ []))

-- of a text whose bytes are known its head was read
abbrev pub HasHead : (left now : Option Bytes) → Bytes → LastLine → Type 0
HasHead None now head last = ⊤
HasHead (Some text) None head last = ⊥
HasHead (Some text) (Some rest) head last = (text ≡ head ++ rest)
    × IsHeadOf head rest last.text.items last.before

-- the place is in a line that is not JSON, or that of a problem of its value
abbrev pub IsPlaceInLine : Options → Bytes → ObjectFault → Place → Type 0
IsPlaceInLine options line problem place = ((reading line ≡ None) × IsPlaceIn line place)
    ⊎ ((d : Data) × (reading line ≡ Some d) × IsPlaceOf None (object_fault_path options problem)
    line place)

-- the place is so many lines below one that is so
abbrev pub IsBelow : ℕ → (Place → Type 0) → Place → Type 0
IsBelow lines Is place = (at : Place) × (place ≡ below lines at) × Is at

-- a place is known that is so, and the other one is so many lines below it, where its line has a
-- number then
abbrev pub IsPlacedBelow : ℕ → (Place → Type 0) → Option Place → Type 0
IsPlacedBelow lines Is place = (at : Place) × Is at × IsLowered (Some at) lines place

-- memory runs out; or the line that was read last is refused, and a place in it is known
abbrev pub IsUnreadLine : LastLine → InputError → Type 0
IsUnreadLine last (trouble.Refused message) = IsPlacedBelow last.before (IsPlaceIn last.text.items)
    message.place
IsUnreadLine last trouble.Memory = ⊤
IsUnreadLine last (trouble.Device _) = ⊥
IsUnreadLine last trouble.TooManyLines = ⊥

-- memory runs out; or the first of the values is no document, and the place is that of its problem,
-- which stands in the line that was read last
abbrev pub IsRefusedFirst : Options → List Data → LastLine → InputError → Type 0
IsRefusedFirst options items last (trouble.Refused message) = (d : Data) × (rest : List Data)
    × (problem : ObjectFault) × (items ≡ d ∷ rest) × HasProblem options d problem
    × IfSome message.place (IsBelow last.before (IsPlaceInLine options last.text.items problem))
IsRefusedFirst options items last trouble.Memory = ⊤
IsRefusedFirst options items last (trouble.Device _) = ⊥
IsRefusedFirst options items last trouble.TooManyLines = ⊥

-- it is refused
abbrev pub IsRefusal : InputError → Type 0
IsRefusal (trouble.Refused _) = ⊤
IsRefusal _ = ⊥

-- the trouble that an error of lines makes: memory runs out, the reader failed, or there are too
-- many, where it says so, and else they are refused
abbrev pub IsTroubleOf : LinesError → InputError → Type 0
IsTroubleOf lines_error.Memory e = e ≡ trouble.Memory
IsTroubleOf (lines_error.Device failed) e = e ≡ trouble.Device failed
IsTroubleOf lines_error.TooManyLines e = e ≡ trouble.TooManyLines
IsTroubleOf (lines_error.Refused _) e = IsRefusal e
IsTroubleOf (lines_error.Document _ _) e = IsRefusal e

-- lines that were left are refused: the options fail a check, and no place is named; or the line
-- that was read last is the first that is no document, and the place is that of its problem; or
-- there are too many
abbrev pub AreRefusedLines : Options → Option Bytes → InputError → Type 0
AreRefusedLines options left (trouble.Refused message) =
    ((refusal : Refusal) × FailsAt (job_of options []) refusal × (message.place ≡ None))
    ⊎ ((last : LastLine) × (number : ℕ) × (problem : ObjectFault)
    × StopsAtLine options left last number problem
    × IfSome message.place (IsBelow last.before (IsPlaceInLine options last.text.items problem)))
AreRefusedLines options left trouble.TooManyLines = IfSome left HasTooManyLines
AreRefusedLines options left _ = ⊤
