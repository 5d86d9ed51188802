-- The index that a job asks for: how it is built, and what is done to it. Rules may choose which
-- words of the documents are indexed, and whether they are stemmed; a job itself has none.
use Rattle.std.specs.Prelude.{◌≡◌, ℕ, List, [], ◌∷◌, ◌++◌, Bool, true, map, filter, nat_le, length}
use Rattle.std.specs.Prelude.{Option, None, Some, slice_get, if◌then◌else◌}
use Rattle.std.specs.List.{AllZip}
use Rattle.std.specs.Option.{option_map_or}
use Rattle.std.specs.Str.{chars}
use Rattle.elasticlunr_text.specs.Text.{Text, Bytes}
use Rattle.elasticlunr_lang.specs.declared.any.AnyLanguage.{AnyLanguage}
use Rattle.elasticlunr_lang.specs.Known.{language_name, language_leaves}
use Rattle.elasticlunr_lang.specs.Words.{words}
use Rattle.elasticlunr.specs.Calls.{followed_by}
use Rattle.elasticlunr.specs.Documents.{IsDocument}
use Rattle.elasticlunr.specs.Fields.{has_name}
use Rattle.elasticlunr.specs.History.{Document, Command, add, remove, compact, Commands, none}
use Rattle.elasticlunr.specs.Reading.{LanguageLeaves, LanguageReads}
use Rattle.elasticlunr.specs.Standing.{Plan}
use Rattle.elasticlunr_job_format.specs.Job as asked
use Rattle.elasticlunr_job_format.specs.Job.{Job}
use Rattle.elasticlunr_job_format.specs.Rules.{WordRules, stems_by}
use Rattle.elasticlunr_stem_stage.specs.Stemmed.{leaves_with, stages_with}

-- how the index of the job is built under rules
abbrev pub job_plan_by : Option WordRules → Job → AnyLanguage → Plan
job_plan_by rules job language = record {
  fields = job.fields;
  reference_field = job.reference_field;
  save = job.save;
  language = language_name language;
  stages = stages_with (stems_by rules) language;
}

-- without rules its stages are the language's
abbrev pub job_plan : Job → AnyLanguage → Plan
job_plan = job_plan_by None

-- the tokens that a language makes of a text
abbrev pub language_tokens : AnyLanguage → Text → List Text
language_tokens language = words

-- the word has no more characters than this
abbrev pub is_short : Option ℕ → Text → Bool
is_short None word = true
is_short (Some most) word = nat_le (length word) most

-- the words of a value of this field that are indexed: none of a field that is only stored, and
-- else those that are not too long
abbrev pub kept_words : WordRules → (field value : Bytes) → List Text
kept_words rules field value = if has_name field rules.stored then [] else filter
    (is_short rules.longest) (words (chars value))

-- the same of the field of this number
abbrev pub kept_at : WordRules → List Bytes → ℕ → (value : Bytes) → List Text
kept_at rules fields i value = option_map_or (λ field. kept_words rules field value)
    (slice_get fields i) (words (chars value))

-- the tokens that may be read of a value: what the language reads of it, or, where there are rules,
-- what the language makes of the words that they keep, with stems where the rules say so
abbrev pub ReadsBy : Option WordRules → List Bytes → AnyLanguage → ℕ → Bytes → List Text → Type 0
ReadsBy None fields language = LanguageReads (language_tokens language) (language_leaves language)
ReadsBy (Some rules) fields language = λ i value tokens.
    LanguageLeaves (leaves_with rules.stems language) (kept_at rules fields i value) tokens

-- the document that is added for one of the job
abbrev pub IsAddedBy : Option WordRules → Job → AnyLanguage → asked.Document → Document → Type 0
IsAddedBy rules job language doc document = IsDocument job.fields job.reference_field
    (ReadsBy rules job.fields language) doc.reference doc.values document

abbrev pub compacted : Bool → List Command
compacted wanted = if wanted then compact ∷ [] else []

-- the documents are added, then the references removed, then the index is compacted if the job asks
-- for it
abbrev pub in_order : Job → List Document → List Command
in_order job documents = map add documents ++ map remove job.remove ++ compacted job.compact

-- the job commands this under these rules
pub record AreCommandsBy (rules : Option WordRules) (job : Job) (language : AnyLanguage)
    (commands : Commands) : Type 0 where
  pub documents : List Document
  pub each : AllZip (IsAddedBy rules job language) job.docs documents
  pub whole : commands ≡ followed_by none (in_order job documents)

-- without rules: the tokens of a document are those that the language reads of its values
abbrev pub IsAdded : Job → AnyLanguage → asked.Document → Document → Type 0
IsAdded = IsAddedBy None

abbrev pub AreCommandsOf : Job → AnyLanguage → Commands → Type 0
AreCommandsOf = AreCommandsBy None
