-- The index that is built for a job.
use Rattle.std.proofs.Common.{◌≡◌, ◌≢◌, ℕ, zero, suc, List, [], ◌∷◌, ◌++◌, Bool, Bor, map, Option, None, Some, slice_get}
use Rattle.std.proofs.Common.{sym, ap, subst, ◌∙◌}
use Rattle.std.specs.Prelude.{IfSome}
use Rattle.elasticlunr_text.specs.Stages.{IsRunBy, LeavesBy}
use Rattle.elasticlunr_text.specs.Text.{Text, Bytes}
use Rattle.elasticlunr_lang.specs.Known.{language_name}
use Rattle.elasticlunr_lang.specs.declared.any.AnyLanguage.{AnyLanguage}
use Rattle.elasticlunr.specs.Choices.{Choices, beginning, with_fields, plan_with, IsBuiltBy}
use Rattle.elasticlunr.specs.Documents as documents
use Rattle.elasticlunr.specs.History.{Commands, Document, none}
use Rattle.elasticlunr.specs.Index.{IsDocumentWithTokens, choices_of}
use Rattle.elasticlunr.specs.GivenTokens.{MayHaveAt, value_texts}
use Rattle.elasticlunr.specs.Reading.{LanguageLeaves, LanguageReads}
use Rattle.elasticlunr.specs.Words.{words}
use Rattle.elasticlunr.specs.declared.index.Index.{Index}
use Rattle.elasticlunr.specs.declared.values.FieldValue.{FieldValue}
use Rattle.elasticlunr.proofs.Calling.{document_more}
use Rattle.elasticlunr.proofs.GivenTokens.{may_have_at_more, through_more}
use Rattle.elasticlunr.proofs.Reading.{read_by_language}
use Rattle.elasticlunr_job.specs.Commands.{job_plan_by}
use Rattle.elasticlunr_job.specs.Filled.{HasChoices, IsBuiltFor}
use Rattle.elasticlunr_job.specs.Given.{AreGiven, kept_lists}
use Rattle.elasticlunr_job.proofs.Under.{added_under, leaves_under}
use Rattle.elasticlunr_job_format.specs.JobTold.{job_told}
use Rattle.elasticlunr_job_format.specs.declared.job.Job as held
use Rattle.elasticlunr_job_format.specs.Job.{Job}
use Rattle.elasticlunr_job_format.specs.Rules.{WordRules, stems_by}
use Rattle.elasticlunr_stem_stage.specs.Stemmed.{leaves_with, stages_with}

nothing_there : {T : Type 0} (names : List Bytes) (i : ℕ) (tokenizer : T)
    → slice_get (map {A = Bytes} {B = Option T} (λ _. None) names) i ≢ Some (Some tokenizer)
nothing_there [] i tokenizer e = cc
nothing_there (name ∷ names) zero tokenizer e = cc
nothing_there (name ∷ names) (suc i) tokenizer e = nothing_there names i tokenizer e

module _ {L P T : Type 0} where
  -- what the builder of a job is given before the fields
  abbrev pub begun : Job → L → P → Choices L (Option P) T
  begun job language pipeline = record (beginning language) {
    pipeline = Some pipeline;
    save = job.save;
    reference_field = job.reference_field;
  }

  -- one thing is given after the other
  pub begun_for : (job : Job) (language : L) (pipeline : P) (first second third fourth : Choices L (Option P) T)
      → first ≡ beginning language → second ≡ record first { pipeline = Some pipeline }
      → third ≡ record second { save = job.save } → fourth ≡ record third { reference_field = job.reference_field }
      → fourth ≡ begun job language pipeline
  begun_for job language pipeline first second third fourth e p f g =
      g ∙ ap {A = Choices L (Option P) T} (λ c. record c { reference_field = job.reference_field })
      (f ∙ ap {A = Choices L (Option P) T} (λ c. record c { save = job.save })
      (p ∙ ap {A = Choices L (Option P) T} (λ c. record c { pipeline = Some pipeline }) e))

  -- and then the fields
  pub given_told : (job : Job) (language : L) (pipeline : P) (fourth last : Choices L (Option P) T)
      (names : List (Bor Bytes)) → fourth ≡ begun job language pipeline → map (λ name. name.now) names ≡ job.fields
      → last ≡ with_fields (map (λ name. name.now) names) fourth
      → last ≡ with_fields job.fields (begun job language pipeline)
  given_told job language pipeline fourth last names e f g =
      g ∙ ap {A = Choices L (Option P) T} (with_fields (map (λ name. name.now) names)) e
      ∙ ap (λ ns. with_fields ns (begun job language pipeline)) f

  pub told_fields : (Q : List Bytes → Type 0) (job : Job) (language : L) (pipeline : P)
      (fourth : Choices L (Option P) T) (names : List (Bor Bytes)) → fourth ≡ begun job language pipeline
      → map (λ name. name.now) names ≡ job.fields → Q (fourth.fields ++ map (λ name. name.now) names) → Q job.fields
  told_fields Q job language pipeline fourth names e f q =
      subst Q f (subst (λ (c : Choices L (Option P) T). Q (c.fields ++ map (λ name. name.now) names)) e q)

  -- the same of the fields as the program holds them
  pub given_for : (job : held.Job) (language : L) (pipeline : P) (fourth last : Choices L (Option P) T)
      (names : List (Bor Bytes)) → fourth ≡ begun (job_told job) language pipeline → names ≡ job.fields.items
      → last ≡ with_fields (map (λ name. name.now) names) fourth
      → last ≡ with_fields (job_told job).fields (begun (job_told job) language pipeline)
  given_for job language pipeline fourth last names e f g = given_told (job_told job) language pipeline fourth last names
      e (ap (map (λ (name : Bor Bytes). name.now)) f) g

  pub given_fields : (Q : List Bytes → Type 0) (job : held.Job) (language : L) (pipeline : P)
      (fourth : Choices L (Option P) T) (names : List (Bor Bytes)) → fourth ≡ begun (job_told job) language pipeline
      → names ≡ job.fields.items → Q (fourth.fields ++ map (λ name. name.now) names) → Q (job_told job).fields
  given_fields Q job language pipeline fourth names e f q = told_fields Q (job_told job) language pipeline fourth names e
      (ap (map (λ (name : Bor Bytes). name.now)) f) q

  pub built_fields : (job : Job) (language : L) (pipeline : P) (given : Choices L (Option P) T) (built : Choices L P T)
      → given ≡ with_fields job.fields (begun job language pipeline) → IsBuiltBy given built
      → built.fields ≡ job.fields
  built_fields job language pipeline given built same has = has.fields
      ∙ ap (λ (c : Choices L (Option P) T). c.fields) same

-- what `build` makes of what was given has these choices
pub has_choices : {P T : Type 0} (job : Job) (language : AnyLanguage) (pipeline : P)
    (given : Choices AnyLanguage (Option P) T) (built : Choices AnyLanguage P T)
    → given ≡ with_fields job.fields (begun job language pipeline) → IsBuiltBy given built
    → IfSome given.pipeline (λ own. built.pipeline ≡ own) → HasChoices job language pipeline built
has_choices {P} {T} job language pipeline given built same has own = record {
  its_language = has.language ∙ ap (λ (c : Choices AnyLanguage (Option P) T). c.language) same;
  its_pipeline = subst (λ (c : Choices AnyLanguage (Option P) T). IfSome c.pipeline (λ q. built.pipeline ≡ q)) same own;
  fields = has.fields ∙ ap (λ (c : Choices AnyLanguage (Option P) T). c.fields) same;
  tokenizers = has.tokenizers ∙ ap (λ (c : Choices AnyLanguage (Option P) T). c.tokenizers) same;
  reference_field = has.reference_field ∙ ap (λ (c : Choices AnyLanguage (Option P) T). c.reference_field) same;
  save = has.save ∙ ap (λ (c : Choices AnyLanguage (Option P) T). c.save) same;
}

-- the plan of what `build` makes of what was given
plan_is : {P T : Type 0} (names : P → List Bytes) (rules : Option WordRules) (job : Job) (language : AnyLanguage)
    (c : Choices AnyLanguage P T) → c.fields ≡ job.fields → c.reference_field ≡ job.reference_field
    → c.save ≡ job.save → c.language ≡ language → names c.pipeline ≡ stages_with (stems_by rules) language
    → plan_with language_name names c ≡ job_plan_by rules job language
plan_is names rules job language c fields reference_field save its_language stages = λ i. record {
  fields = fields i;
  reference_field = reference_field i;
  save = save i;
  language = language_name (its_language i);
  stages = stages i;
}

module _ {P X Y : Type 0} {O : X → Type 0} {F : Y → Type 0} {p : _} {g : _} where
  -- without tokenizers, the documents of values with tokens are those of what the pipeline makes of words
  made_as : (leaves : (v : X) × O v → Text → Option Text) (index : Index AnyLanguage P X Y O F p g)
      (R : Text → Option Text → Type 0)
      → ((i : ℕ) (tokenizer : _) → slice_get (choices_of index).tokenizers i ≢ Some (Some tokenizer))
      → LeavesBy leaves (choices_of index).pipeline R
      → (reference : Bytes) (values : List FieldValue) (document : Document)
      → IsDocumentWithTokens (λ _. words) leaves index reference values document
      → documents.IsDocument (choices_of index).fields (choices_of index).reference_field
      (MayHaveAt (LanguageReads words R) (LanguageLeaves R) values) reference (value_texts values) document
  made_as leaves index R untold same reference values document is = document_more _ _ _ _
      (may_have_at_more _ _ _ _
      (read_by_language (λ _. words) _ (choices_of index) (IsRunBy leaves) R untold _ (λ made left ran. ran)
      (λ token left text. (same token left text).0))
      (through_more _ R (λ token left text. (same token left text).0)) values) reference _ document is

  -- an index of these choices is built for the job; values are given with the words that rules keep
  pub built_for : (leaves : (v : X) × O v → Text → Option Text) (rules : Option WordRules) (job : Job)
      (language : AnyLanguage) (index : Index AnyLanguage P X Y O F p g) (pipeline : _) (names : _ → List Bytes)
      (stands : Commands → Type 0) (stems : Bool) → stems ≡ stems_by rules
      → HasChoices job language pipeline (choices_of index) → names pipeline ≡ stages_with stems language
      → LeavesBy leaves pipeline (leaves_with stems language) → stands none
      → IsBuiltFor rules job language (plan_with language_name names (choices_of index))
      (λ reference values document. (handed : List FieldValue)
      × AreGiven values (kept_lists rules job.fields values) handed
      × IsDocumentWithTokens (λ _. words) leaves index reference handed document) stands
  built_for leaves rules job language index pipeline names stands stems same_stems has stages leave empty =
      let built = choices_of index in
      let R = leaves_under rules language in
      let its_leave : LeavesBy leaves built.pipeline R = subst (λ q. LeavesBy leaves q R) (sym has.its_pipeline)
      (subst (λ b. LeavesBy leaves pipeline (leaves_with b language)) same_stems leave) in
      record {
        its_plan = plan_is names rules job language built has.fields has.reference_field has.save has.its_language
            (ap names has.its_pipeline ∙ stages ∙ ap (λ b. stages_with b language) same_stems);
        adds = λ doc document is. added_under language rules job doc is.0 document is.1
            (subst (λ ns. documents.IsDocument ns job.reference_field
            (MayHaveAt (LanguageReads words R) (LanguageLeaves R) is.0) doc.reference (value_texts is.0) document)
            has.fields
            (subst (λ name. documents.IsDocument built.fields name
            (MayHaveAt (LanguageReads words R) (LanguageLeaves R) is.0) doc.reference (value_texts is.0) document)
            has.reference_field
            (made_as leaves index R
            (λ i tokenizer. subst (λ ts. slice_get ts i ≢ Some (Some tokenizer)) (sym has.tokenizers)
            (nothing_there job.fields i tokenizer)) its_leave doc.reference is.0 document is.2)));
        empty = empty;
      }
