-- The answer to an input: the outcome, and what is written.
use Rattle.std.specs.Prelude.{◌≡◌, ◌<◌, ◌≤◌, List, [], ◌∷◌, ◌++◌, Bool, length, All, Any, codes}
use Rattle.std.specs.Prelude.{Option, Some, None, true, false, if◌then◌else◌}
use Rattle.serde_json.specs.Data.{Data}
use Rattle.serde_json.specs.Written.{compact_text}
use Rattle.elasticlunr_text.specs.Text.{Bytes}
use Rattle.elasticlunr_lang.specs.declared.any.AnyLanguage.{AnyLanguage}
use Rattle.elasticlunr_lang.specs.Known.{language_name}
use Rattle.elasticlunr.specs.Current.{IsReadableAfter}
use Rattle.elasticlunr.specs.Fields.{all_differ}
use Rattle.elasticlunr.specs.History.{Commands}
use Rattle.elasticlunr.specs.Kept.{KeptReads}
use Rattle.elasticlunr.specs.Printed.{IsPrintOf, IsValue, pretty_text}
use Rattle.elasticlunr.specs.Standing.{Plan}
use Rattle.elasticlunr_job.specs.Calls.{job_calls}
use Rattle.elasticlunr_job.specs.Commands.{AreCommandsBy, job_plan, job_plan_by}
use Rattle.elasticlunr_job_format.specs.Job.{Document, Job, IsJob, IsNoJob}
use Rattle.elasticlunr_job_format.specs.Reading.{reading}
use Rattle.elasticlunr_job_format.specs.Rules.{WordRules}
use Rattle.elasticlunr_job.specs.declared.outcome.Outcome.{Outcome}
use Rattle.elasticlunr_job.specs.declared.outcome.Outcome.TheVariants.{Printed, Refused}
use Rattle.elasticlunr_job_format.specs.declared.outcome.Refusal.{Refusal}
use Rattle.elasticlunr_job_format.specs.declared.outcome.Refusal.TheVariants.{NotJson, NotAJob}
use Rattle.elasticlunr_job_format.specs.declared.outcome.Refusal.TheVariants.{UnknownLanguage}
use Rattle.elasticlunr_job_format.specs.declared.outcome.Refusal.TheVariants.{DuplicateField}
use Rattle.elasticlunr_job_format.specs.declared.outcome.Refusal.TheVariants.{TooManyValues}

-- the bytes are JSON, and that is this job
abbrev pub HasJob : Bytes → Job → Type 0
HasJob bytes job = (d : Data) × (reading bytes ≡ Some d) × IsJob d job

abbrev pub HasTooMany : List Bytes → Document → Type 0
HasTooMany fields doc = length fields < length doc.values

-- there is a language with this name
abbrev pub NamesLanguage : Bytes → Type 0
NamesLanguage name = (language : AnyLanguage) × (language_name language ≡ name)

-- the check that the job fails first
abbrev pub FailsAt : Job → Refusal → Type 0
FailsAt job NotJson = ⊥
FailsAt job NotAJob = ⊥
FailsAt job UnknownLanguage = ¬ NamesLanguage job.language
FailsAt job DuplicateField = NamesLanguage job.language × (all_differ job.fields ≡ false)
FailsAt job TooManyValues = NamesLanguage job.language × (all_differ job.fields ≡ true)
    × Any (HasTooMany job.fields) job.docs

-- the job passes all checks, and its language is this one
pub record Passes (job : Job) (language : AnyLanguage) : Type 0 where
  pub named : language_name language ≡ job.language
  pub distinct : all_differ job.fields ≡ true
  pub fits : All (λ doc. length doc.values ≤ length job.fields) job.docs

-- the check that the input fails first
abbrev pub IsRefused : Bytes → Refusal → Type 0
IsRefused bytes NotJson = reading bytes ≡ None
IsRefused bytes NotAJob = (d : Data) × (reading bytes ≡ Some d) × IsNoJob d
IsRefused bytes refusal = (job : Job) × HasJob bytes job × FailsAt job refusal

abbrev pub printed_text : Bool → Data → Bytes
printed_text pretty value = if pretty then pretty_text value else compact_text value

abbrev pub refusal_text : Refusal → Bytes
refusal_text NotJson = codes "refused: not JSON"
refusal_text NotAJob = codes "refused: not a job"
refusal_text UnknownLanguage = codes "refused: unknown language"
refusal_text DuplicateField = codes "refused: duplicate field"
refusal_text TooManyValues = codes "refused: too many values"

-- a text and a line feed
abbrev pub line : Bytes → Bytes
line text = text ++ 10 ∷ []

-- what can be said of an index: whether it is printed pretty, its plan, and the commands that it
-- represents
abbrev pub OfIndex : Type 1
OfIndex = Bool → Plan → Commands → Type 0

-- this is its text, and a line feed
abbrev pub IsPrintedLine : Bytes → OfIndex
IsPrintedLine text pretty plan commands = (value : Data) × IsValue plan commands value
    × (text ≡ line (printed_text pretty value))

-- it is, and is read as what is printed of the index
abbrev pub IsReadableLine : Bytes → OfIndex
IsReadableLine text pretty plan commands = IsPrintedLine text pretty plan commands
    × IsPrintOf plan commands text

-- of the index that the job asks for under these rules, in this language, this holds
pub record IsMadeInBy (rules : Option WordRules) (job : Job) (language : AnyLanguage) (Is : OfIndex)
    : Type 0 where
  pub commands : Commands
  pub are_commands : AreCommandsBy rules job language commands
  pub is : Is job.pretty (job_plan_by rules job language) commands

-- the job passes all checks, and this holds of its index under these rules, in its language
abbrev pub IsMadeBy : Option WordRules → Job → OfIndex → Type 0
IsMadeBy rules job Is = (language : AnyLanguage) × Passes job language
    × IsMadeInBy rules job language Is

-- the same without rules
abbrev pub IsMadeIn : Job → AnyLanguage → OfIndex → Type 0
IsMadeIn = IsMadeInBy None

abbrev pub IsMadeOf : Job → OfIndex → Type 0
IsMadeOf = IsMadeBy None

-- the job passes all checks, and this is the text of its index in its language, and a line feed
abbrev pub IsLineOf : Job → Bytes → Type 0
IsLineOf job text = IsMadeOf job (IsPrintedLine text)

-- the text is read as that of an index of the job in this language, after the calls of the job
abbrev pub IsReadableIn : Job → AnyLanguage → Bytes → Type 0
IsReadableIn job language text = IsReadableAfter (KeptReads language) (job_plan job language)
    (job_calls job) text

-- the job passes all checks, and the text is read so in its language
abbrev pub IsReadableOf : Job → Bytes → Type 0
IsReadableOf job text = (language : AnyLanguage) × Passes job language
    × IsReadableIn job language text

-- to the input the answer is this outcome, and this is written
abbrev pub IsAnswer : Bytes → Outcome → Bytes → Type 0
IsAnswer bytes Printed text = (job : Job) × HasJob bytes job × IsLineOf job text
IsAnswer bytes (Refused refusal) text = IsRefused bytes refusal
    × (text ≡ line (refusal_text refusal))
