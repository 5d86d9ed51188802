-- Documents as lines of JSON, an object each: the text of their index, and why there is none.
use Rattle.std.specs.Prelude.{◌≡◌, ◌≤◌, ◌==◌, ◌+◌, ◌^◌, ⊤, ℕ, true, List, [], length, Option, Some}
use Rattle.std.specs.Prelude.{None}
use Rattle.std.specs.Prelude.{IfSome, count_by}
use Rattle.serde_json.specs.Data.{Data}
use Rattle.elasticlunr_text.specs.Text.{Bytes}
use Rattle.elasticlunr.specs.Fields.{all_differ}
use Rattle.elasticlunr_job.specs.Answer.{FailsAt, IsPrintedLine, NamesLanguage, OfIndex}
use Rattle.elasticlunr_job_format.specs.Job.{Document}
use Rattle.elasticlunr_job_format.specs.LineRead.{IsLineAfter}
use Rattle.elasticlunr_job_format.specs.Lines.{AreLineValues}
use Rattle.elasticlunr_job_format.specs.Objects.{Options, AreDocumentsOf, HasProblem}
use Rattle.elasticlunr_job_format.specs.Reading.{reading}
use Rattle.elasticlunr_documents.specs.Objects.{IsMadeOfObjects, job_of}
use Rattle.elasticlunr_documents.specs.declared.lines.LastLine.{LastLine}
use Rattle.elasticlunr_documents.specs.declared.lines.LinesError.{LinesError}
use Rattle.elasticlunr_documents.specs.declared.lines.LinesError.TheVariants as error
use Rattle.elasticlunr_job_format.specs.declared.objects.ObjectFault.{ObjectFault}
use Rattle.elasticlunr_job_format.specs.declared.objects.ObjectFault.TheVariants.{NotJson}

-- this holds of the index of the documents that the lines are
abbrev pub IsMadeOfLines : Options → Bytes → OfIndex → Type 0
IsMadeOfLines options input Is = (items : List Data) × AreLineValues input items
    × IsMadeOfObjects options items Is

-- the text of the index of the documents that the lines are, and a line feed
abbrev pub IsLineOfLines : Options → Bytes → Bytes → Type 0
IsLineOfLines options input text = IsMadeOfLines options input (IsPrintedLine text)

-- what is wrong with a line that is read so: it is not JSON, or its value is no document
abbrev pub HasLineProblem : Options → Option Data → ObjectFault → Type 0
HasLineProblem options None problem = problem ≡ NotJson
HasLineProblem options (Some d) problem = HasProblem options d problem

-- the lines before a line are documents, and it is none; its number counts from 1, without the
-- blank ones
pub record IsFirstNoDocument (options : Options) (before line : Bytes) (number : ℕ)
    (problem : ObjectFault) : Type 0 where
  pub items : List Data
  pub documents : List Document
  pub are_values : AreLineValues before items
  pub are_documents : AreDocumentsOf options items documents
  pub number_is : number ≡ length items + 1
  pub has : HasLineProblem options (reading line) problem

-- the language is known, and no field stands twice
abbrev pub HasFitOptions : Options → Type 0
HasFitOptions options = NamesLanguage options.language × (all_differ options.fields ≡ true)

-- the line that was read last of what was left is no document, and all lines before it are
abbrev pub StopsAtLine : Options → Option Bytes → LastLine → ℕ → ObjectFault → Type 0
StopsAtLine options left last number problem = (before : Bytes)
    × IsLineAfter left before last.text.items last.before
    × IsFirstNoDocument options before last.text.items number problem

-- with one line for each line feed, and a last one, the text has more lines than a `usize` can
-- number
abbrev pub HasTooManyLines : Bytes → Type 0
HasTooManyLines text = 2 ^ 64 ≤ count_by (λ b. b == 10) text + 1

-- why no index of the lines that were left is printed: the check that the options fail first, or
-- else the first line that is no document, which was read last, or else that there are too many
abbrev pub FailsLines : Options → Option Bytes → LastLine → LinesError → Type 0
FailsLines options left last error.Memory = ⊤
FailsLines options left last (error.Device _) = ⊤
FailsLines options left last (error.Refused refusal) = FailsAt (job_of options []) refusal
FailsLines options left last (error.Document number problem) = HasFitOptions options
    × StopsAtLine options left last number problem
FailsLines options left last error.TooManyLines = HasFitOptions options
    × IfSome left HasTooManyLines

-- where it is said that a read failed, this holds
abbrev pub IfDevice : Type 0 → LinesError → Type 0
IfDevice P (error.Device _) = P
IfDevice P _ = ⊤
