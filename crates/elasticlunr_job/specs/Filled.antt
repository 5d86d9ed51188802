-- The index that is built for a job, and the documents that fit it; for private clauses. `made`
-- relates a reference and values to the document that the index makes of them.
use Rattle.std.specs.Prelude.{◌≡◌, ◌≤◌, List, length, map, All, Option, None}
use Rattle.elasticlunr_text.specs.Text.{Text, Bytes}
use Rattle.elasticlunr_lang.specs.declared.any.AnyLanguage.{AnyLanguage}
use Rattle.elasticlunr.specs.Choices.{Choices}
use Rattle.elasticlunr.specs.History.{Document, Commands, none}
use Rattle.elasticlunr.specs.Standing.{Plan}
use Rattle.elasticlunr.specs.Index.{IsDocumentWithTokens}
use Rattle.elasticlunr.specs.declared.index.Index.{Index}
use Rattle.elasticlunr.specs.declared.values.FieldValue.{FieldValue}
use Rattle.elasticlunr_job.specs.Commands.{IsAddedBy, job_plan_by}
use Rattle.elasticlunr_job.specs.Given.{AreGiven, kept_lists}
use Rattle.elasticlunr_job_format.specs.Job as asked
use Rattle.elasticlunr_job_format.specs.Job.{Job}
use Rattle.elasticlunr_job_format.specs.Rules.{WordRules}

-- of these choices an index is built for a job in this language: the pipeline is this one, and no
-- field has a tokenizer
pub record HasChoices {P T : Type 0} (job : Job) (language : AnyLanguage) (pipeline : P)
    (built : Choices AnyLanguage P T) : Type 0 where
  pub its_language : built.language ≡ language
  pub its_pipeline : built.pipeline ≡ pipeline
  pub fields : built.fields ≡ job.fields
  pub tokenizers : built.tokenizers ≡ map (λ _. None) job.fields
  pub reference_field : built.reference_field ≡ job.reference_field
  pub save : built.save ≡ job.save

-- no document has more values than there are fields
abbrev pub Fits : List Bytes → List asked.Document → Type 0
Fits fields docs = All (λ doc. length doc.values ≤ length fields) docs

-- an index of this plan is the job's in this language under these rules, and nothing was done to it
-- yet
pub record IsBuiltFor (rules : Option WordRules) (job : Job) (language : AnyLanguage) (plan : Plan)
    (made : Bytes → List Bytes → Document → Type 0) (stands : Commands → Type 0) : Type 0 where
  pub its_plan : plan ≡ job_plan_by rules job language
  pub adds : (doc : asked.Document) (document : Document) → made doc.reference doc.values document
      → IsAddedBy rules job language doc document
  pub empty : stands none

module _ {L P X Y : Type 0} {O : X → Type 0} {F : Y → Type 0} {p : _} {g : _} where
  -- the index makes the document of these values, with the words that the rules keep of them
  abbrev pub IsMadeUnder : Option WordRules → List Bytes → (tokens_of : L → Text → List Text)
      → (leaves : (v : X) × O v → Text → Option Text) → Index L P X Y O F p g → Bytes → List Bytes
      → Document → Type 0
  IsMadeUnder rules fields tokens_of leaves index reference values document =
      (given : List FieldValue) × AreGiven values (kept_lists rules fields values) given
      × IsDocumentWithTokens tokens_of leaves index reference given document
