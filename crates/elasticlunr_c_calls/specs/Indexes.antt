-- The index that an input in the flat form asks for.
use Rattle.std.specs.Prelude.{◌≡◌, ◌<◌, ◌≤◌, ℕ, List, map, length, slice_get, All, Any, true, false}
use Rattle.std.specs.Prelude.{IsSomeAnd, ⊤}
use Rattle.std.specs.List.{AllZip}
use Rattle.std.specs.Str.{chars}
use Rattle.serde_json.specs.Written.{compact_text}
use Rattle.elasticlunr.specs.Calls.{followed_by}
use Rattle.elasticlunr.specs.Documents.{IsDocument}
use Rattle.elasticlunr.specs.Fields.{all_differ}
use Rattle.elasticlunr.specs.History.{Document, Commands, add, none}
use Rattle.elasticlunr.specs.Printed.{IsTextAfter}
use Rattle.elasticlunr.specs.Reading.{LanguageLeaves, LanguageReads}
use Rattle.elasticlunr.specs.Standing.{Plan}
use Rattle.elasticlunr.specs.Text.{Text, Bytes}
use Rattle.elasticlunr.specs.Words.{words}
use Rattle.elasticlunr_flat.specs.Flat as flat
use Rattle.elasticlunr_job.specs.Answer.{NamesLanguage, line, refusal_text}
use Rattle.elasticlunr_job.specs.declared.outcome.Outcome.{Outcome}
use Rattle.elasticlunr_job.specs.declared.outcome.Outcome.TheVariants.{Printed, Refused}
use Rattle.elasticlunr_job_format.specs.declared.outcome.Refusal.{Refusal}
use Rattle.elasticlunr_job_format.specs.declared.outcome.Refusal.TheVariants.{NotJson, NotAJob}
use Rattle.elasticlunr_job_format.specs.declared.outcome.Refusal.TheVariants.{UnknownLanguage}
use Rattle.elasticlunr_job_format.specs.declared.outcome.Refusal.TheVariants.{DuplicateField}
use Rattle.elasticlunr_job_format.specs.declared.outcome.Refusal.TheVariants.{TooManyValues}
use Rattle.elasticlunr_c_calls.specs.Languages.{leaves_in, name_in, stages_in, IsNamed}
use Rattle.elasticlunr_c_calls.specs.declared.language.InputLanguage.{InputLanguage}

-- how the index is built
abbrev pub plan_in : flat.Input → InputLanguage → Plan
plan_in input language = record {
  fields = input.fields;
  reference_field = input.reference_field;
  save = input.save;
  language = name_in language;
  stages = stages_in language;
}

-- a text may have these tokens: what the language reads of it, what the language makes of given
-- tokens, or given tokens as they are
abbrev pub MayHave : InputLanguage → flat.Tokens → ℕ → (text : Bytes) → (tokens : List Text)
    → Type 0
MayHave language flat.from_text i text tokens = LanguageReads words (leaves_in language) i text
    tokens
MayHave language (flat.into_pipeline given) i text tokens = LanguageLeaves (leaves_in language)
    (map chars given) tokens
MayHave language (flat.as_given given) i text tokens = tokens ≡ map chars given

-- the value at this place may have these tokens
abbrev pub MayHaveAt : InputLanguage → List flat.Value → ℕ → (text : Bytes) → (tokens : List Text)
    → Type 0
MayHaveAt language values i text tokens = IsSomeAnd (slice_get values i)
    (λ value. MayHave language value.tokens i text tokens)

-- the document that is added for one of the input
abbrev pub IsAdded : flat.Input → InputLanguage → flat.Document → Document → Type 0
IsAdded input language given document = IsDocument input.fields input.reference_field
    (MayHaveAt language given.values) given.reference (map (λ value. value.text) given.values)
    document

-- the input commands this: its documents are added, in order
pub record AreCommandsOf (input : flat.Input) (language : InputLanguage) (commands : Commands)
    : Type 0 where
  pub documents : List Document
  pub each : AllZip (IsAdded input language) input.documents documents
  pub whole : commands ≡ followed_by none (map add documents)

-- what can be said of an index of this plan that represents these commands
abbrev pub OfIndex : Type 1
OfIndex = Plan → Commands → Type 0

-- this is its text
abbrev pub IsTextOfIndex : Bytes → OfIndex
IsTextOfIndex text plan commands = IsTextAfter compact_text plan commands text

-- of the index that the input asks for, in this language, this holds
pub record IsMadeIn (input : flat.Input) (language : InputLanguage) (Is : OfIndex) : Type 0 where
  pub commands : Commands
  pub are_commands : AreCommandsOf input language commands
  pub is : Is (plan_in input language) commands

abbrev pub HasTooMany : List Bytes → flat.Document → Type 0
HasTooMany fields document = length fields < length document.values

-- no document has more values than there are fields
abbrev pub Fits : List Bytes → List flat.Document → Type 0
Fits fields documents = All (λ document. length document.values ≤ length fields) documents

-- the input passes all checks, and its language is this one
pub record Passes (input : flat.Input) (language : InputLanguage) : Type 0 where
  pub named : IsNamed input.language language
  pub distinct : all_differ input.fields ≡ true
  pub fits : Fits input.fields input.documents

-- the input passes all checks, and this holds of its index
abbrev pub IsMadeOf : flat.Input → OfIndex → Type 0
IsMadeOf input Is = (language : InputLanguage) × Passes input language
    × IsMadeIn input language Is

-- the input passes all checks, and this is the text of its index
abbrev pub IsTextOf : flat.Input → Bytes → Type 0
IsTextOf input text = IsMadeOf input (IsTextOfIndex text)

-- there is such a language
abbrev pub NamesAny : flat.Language → Type 0
NamesAny (flat.built_in name) = NamesLanguage name
NamesAny (flat.own name stages) = ⊤
NamesAny (flat.stemmed name) = NamesLanguage name

-- the check that the input fails first
abbrev pub FailsAt : flat.Input → Refusal → Type 0
FailsAt input NotJson = ⊥
FailsAt input NotAJob = ⊥
FailsAt input UnknownLanguage = ¬ NamesAny input.language
FailsAt input DuplicateField = NamesAny input.language × (all_differ input.fields ≡ false)
FailsAt input TooManyValues = NamesAny input.language × (all_differ input.fields ≡ true)
    × Any (HasTooMany input.fields) input.documents

-- the bytes are the flat form of this input
pub record IsFormOf (bytes : Bytes) (input : flat.Input) : Type 0 where
  pub fits : flat.IsInput input
  pub are : bytes ≡ flat.flat_input input

-- the bytes are not in the flat form
abbrev pub IsMalformed : Bytes → Type 0
IsMalformed bytes = (input : flat.Input) → ¬ IsFormOf bytes input

-- bytes in the flat form have this outcome, and this answers them
abbrev pub IsIndexed : Bytes → Outcome → Bytes → Type 0
IsIndexed bytes Printed text = (input : flat.Input) × IsFormOf bytes input × IsTextOf input text
IsIndexed bytes (Refused refusal) text = (input : flat.Input) × IsFormOf bytes input
    × FailsAt input refusal × (text ≡ line (refusal_text refusal))

-- an index of this plan is the input's in this language, and nothing was done to it yet; `made`
-- relates a reference and values to the document that the index makes of them; for private clauses
pub record IsBuiltFor {V : Type 0} (told : V → flat.Value) (input : flat.Input)
    (language : InputLanguage) (plan : Plan) (made : Bytes → List V → Document → Type 0)
    (stands : Commands → Type 0) : Type 0 where
  pub its_plan : plan ≡ plan_in input language
  pub adds : (given : flat.Document) (values : List V) (document : Document)
      → map told values ≡ given.values → made given.reference values document
      → IsAdded input language given document
  pub empty : stands none
