-- How lines are added to an index; for private clauses.
use Rattle.std.specs.Prelude.{◌≡◌, ⊤, ℕ, Bool, true, false, List, Option, Some, None, if◌then◌else◌}
use Rattle.std.specs.Prelude.{IfSome}
use Rattle.std.specs.Io.KnownBytes.{Consumes}
use Rattle.serde_json.specs.Data.{Data}
use Rattle.elasticlunr_text.specs.Text.{Bytes}
use Rattle.elasticlunr_text.specs.IndexError.{IndexError}
use Rattle.elasticlunr_text.specs.IndexError.TheVariants.{DuplicateField}
use Rattle.elasticlunr_lang.specs.declared.any.AnyLanguage.{AnyLanguage}
use Rattle.elasticlunr_job.specs.Answer.{IsMadeInBy, OfIndex}
use Rattle.elasticlunr_job_format.specs.Job.{Document}
use Rattle.elasticlunr_job_format.specs.LineRead.{AreAll, HasNoFeed, fed}
use Rattle.elasticlunr_job_format.specs.Lines.{AreLineValues, is_blank}
use Rattle.elasticlunr_job_format.specs.Reading.{reading}
use Rattle.elasticlunr_documents.specs.Lines.{HasTooManyLines, StopsAtLine}
use Rattle.elasticlunr_job_format.specs.Objects.{Options, AreDocumentsOf}
use Rattle.elasticlunr_documents.specs.Objects.{job_of}
use Rattle.elasticlunr_documents.specs.declared.lines.LastLine.{LastLine}
use Rattle.elasticlunr_documents.specs.declared.lines.LinesError.{LinesError}
use Rattle.elasticlunr_documents.specs.declared.lines.LinesError.TheVariants as error
use Rattle.elasticlunr_job_format.specs.declared.objects.ObjectFault.{ObjectFault}
use Rattle.elasticlunr_job_format.specs.declared.objects.ObjectFault.TheVariants.{NotJson}
use Rattle.elasticlunr_job_format.specs.declared.outcome.Refusal.TheVariants as refusal

-- of what was left a line was taken, with the line feed after it where there is more
pub record IsTaken (left now : Option Bytes) (line : Bytes) (more : Bool) : Type 0 where
  pub no_feed : HasNoFeed line
  pub taken : Consumes left now (if more then fed line else line)
  pub last : more ≡ false → AreAll left line

-- the value of a line, and none of a blank one
abbrev pub IsValueOf : Bytes → Option Data → Type 0
IsValueOf line None = is_blank line ≡ true
IsValueOf line (Some d) = (is_blank line ≡ false) × (reading line ≡ Some d)

-- a line was taken that is neither blank nor JSON
abbrev pub IsUnreadAfter : (left now : Option Bytes) → Bytes → ObjectFault → Type 0
IsUnreadAfter left now line problem = (more : Bool) × IsTaken left now line more
    × (is_blank line ≡ false) × (reading line ≡ None) × (problem ≡ NotJson)

-- a line was not read: the reader failed, or memory runs out
abbrev pub IsUnread : LinesError → Type 0
IsUnread error.Memory = ⊤
IsUnread (error.Device _) = ⊤
IsUnread _ = ⊥

-- the line of this number has a problem, or memory runs out
abbrev pub StopsOn : ℕ → (ObjectFault → Type 0) → LinesError → Type 0
StopsOn number Has error.Memory = ⊤
StopsOn number Has (error.Document place problem) = (place ≡ number) × Has problem
StopsOn number Has _ = ⊥

-- so it is, or the reader failed
abbrev pub StopsReading : ℕ → (ObjectFault → Type 0) → LinesError → Type 0
StopsReading number Has (error.Device _) = ⊤
StopsReading number Has e = StopsOn number Has e

-- the line that was read last of what was left is the first that is no document, or there are too
-- many lines, or something else fails that says nothing of them
abbrev pub StopsFilling : Options → Option Bytes → LastLine → LinesError → Type 0
StopsFilling options left last error.Memory = ⊤
StopsFilling options left last (error.Device _) = ⊤
StopsFilling options left last (error.Refused _) = ⊥
StopsFilling options left last (error.Document number problem) = StopsAtLine options left last
    number problem
StopsFilling options left last error.TooManyLines = IfSome left HasTooManyLines

-- this holds of the index, in this language, of the documents that the lines are
pub record IsFilledBy (options : Options) (language : AnyLanguage) (input : Bytes) (Is : OfIndex) :
    Type 0 where
  pub items : List Data
  pub documents : List Document
  pub are_values : AreLineValues input items
  pub are_documents : AreDocumentsOf options items documents
  pub made : IsMadeInBy options.rules (job_of options documents) language Is

-- how a refusal of the builder ends the work on lines; the others are out of memory
abbrev pub index_error_of : IndexError → LinesError
index_error_of DuplicateField = error.Refused refusal.DuplicateField
index_error_of _ = error.Memory
