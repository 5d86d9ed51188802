-- Indexes of the same settings.
use Rattle.std.proofs.Common.{◌≡◌, ◌⊎◌, ◌<◌, ◌≤◌, List, Bool, true, false, Option, None, Some, Result, Ok, Err, IsNone}
use Rattle.std.proofs.Common.{IsSomeAnd, ◌↔◌, true≢false, inl, inr, sym, ap, subst, ◌∙◌, length, arith}
use Rattle.std.proofs.lemmas.Bool.{cases_lt}
use Rattle.std.proofs.lemmas.List.{length-map}
use Rattle.elasticlunr_text.specs.Stages.{names_of, IsRun}
use Rattle.elasticlunr_text.specs.Text.{Text, Bytes}
use Rattle.elasticlunr.specs.Choices.{plan_with, Reads}
use Rattle.elasticlunr.specs.Documents as documents
use Rattle.elasticlunr.specs.History.{Commands, Document, ◌▸◌, compact}
use Rattle.elasticlunr.specs.Index.{choices_of, fields_of, plan_of, IsDocument, IsFailed, StandsFor}
use Rattle.elasticlunr.specs.Tokenizers.{MayAnswer}
use Rattle.elasticlunr.specs.declared.index.Index.{Index}
use Rattle.elasticlunr.specs.GivenTokens.{MayHaveAt, value_texts}
use Rattle.elasticlunr.specs.declared.values.FieldValue.{FieldValue}
use Rattle.elasticlunr_text.specs.Stages.{IsRunBy}
use Rattle.elasticlunr_job.specs.Answer.{HasTooMany}
use Rattle.elasticlunr_job.specs.Filled.{IsMadeUnder}
use Rattle.elasticlunr_job.specs.Given.{AreGiven}
use Rattle.elasticlunr_job_format.specs.Rules.{WordRules}
use Rattle.elasticlunr.specs.Calls.{followed_by}
use Rattle.elasticlunr_job.specs.Commands.{compacted}
use Rattle.elasticlunr_job.proofs.Taken.{Follows}
use Rattle.elasticlunr_job_format.specs.JobTold.{document_told}
use Rattle.elasticlunr_job_format.specs.declared.job.Document as held

-- a call that was not refused has not too many values
pub not_refused : {T E : Type 0} (r : Result T E) (ok : T) (failed too_many : E) (F M : Type 0) → r ≡ Ok ok
    → (r ≡ Err failed) ↔ F → (r ≡ Err too_many) ↔ (¬ F × M) → ¬ M
not_refused r ok failed too_many F M is f m over =
    let works : ¬ F = λ h. (let e : r ≡ Err failed = f.1 h in cc) in
    let e : r ≡ Err too_many = m.1 (works, over) in cc

-- after a call that was not refused the index works
pub still_works : {T E : Type 0} (r : Result T E) (ok : T) (failed memory : E) (F : Type 0) → r ≡ Ok ok → F
    ↔ ((r ≡ Err failed) ⊎ (r ≡ Err memory)) → ¬ F
still_works r ok failed memory F is f failing = elim (f.0 failing)
    [ inl a ↦ (let e : r ≡ Err failed = a in cc) | inr b ↦ (let e : r ≡ Err memory = b in cc) ]

-- as many values are given as there are texts
pub as_long : (texts : List Bytes) (lists : List (List Text)) (given : List FieldValue) → AreGiven texts lists given
    → length texts ≡ length given
as_long texts lists given are = sym (ap length are.texts_are) ∙ length-map given _

some_not_none : {A : Type 0} (o : Option A) (Q : A → Type 0) → IsSomeAnd o Q → IsNone o → ⊥
some_not_none None Q some none = absurd some
some_not_none (Some x) Q some none = true≢false none

module _ {L P X Y : Type 0} {O : X → Type 0} {F : Y → Type 0} {p : _} {g : _} where
  -- they make the same documents
  pub document_alike : (tokens_of : L → Text → List Text) (leaves : (v : X) × O v → Text → Option Text)
      (old new : Index L P X Y O F p g) → choices_of new ≡ choices_of old
      → (reference : Bytes) (values : List Bytes) (document : Document)
      → IsDocument tokens_of leaves new reference values document
      → IsDocument tokens_of leaves old reference values document
  document_alike tokens_of leaves old new same reference values document made =
      subst (λ c. documents.IsDocument c.fields c.reference_field
      (Reads tokens_of MayAnswer (IsRun (λ step. leaves (step.vtable, step.value))) c) reference values document)
      same made

  -- they make the same documents of values that are given with words
  pub given_alike : (rules : Option WordRules) (fields : List Bytes) (tokens_of : L → Text → List Text)
      (leaves : (v : X) × O v → Text → Option Text) (old new : Index L P X Y O F p g) → choices_of new ≡ choices_of old
      → (reference : Bytes) (values : List Bytes) (document : Document)
      → IsMadeUnder rules fields tokens_of leaves new reference values document
      → IsMadeUnder rules fields tokens_of leaves old reference values document
  given_alike rules fields tokens_of leaves old new same reference values document made = (
    made.0,
    made.1,
    subst (λ c. documents.IsDocument c.fields c.reference_field
        (MayHaveAt (Reads tokens_of MayAnswer (IsRunBy leaves) c) (IsRunBy leaves c.pipeline) made.0) reference
        (value_texts made.0) document) same made.2,
  )

  -- they are printed alike
  pub plan_alike : (name_of : L → Bytes) (name_text : (v : X) × O v → Bytes) (old new : Index L P X Y O F p g)
      → choices_of new ≡ choices_of old → plan_of name_of name_text new ≡ plan_of name_of name_text old
  plan_alike name_of name_text old new same =
      ap (plan_with name_of (names_of (λ step. name_text (step.vtable, step.value)))) same

  -- one after the other
  pub same_settings : (first second third last : Index L P X Y O F p g) → last ≡ third → choices_of third
      ≡ choices_of second → choices_of second ≡ choices_of first → choices_of last ≡ choices_of first
  same_settings first second third last is same earlier = ap choices_of is ∙ (same ∙ earlier)

  -- one that holds something has not failed
  pub holding_works : (index : Index L P X Y O F p g) (Q : _ → Type 0) → IsSomeAnd index.contents Q → ¬ IsFailed index
  holding_works index Q some failed = some_not_none index.contents Q some failed

  -- a call that fails only a failed index
  pub works_then : (old new last : Index L P X Y O F p g) → last ≡ new → IsFailed new ↔ IsFailed old → ¬ IsFailed old
      → ¬ IsFailed last
  works_then old new last is fails works failed = works (fails.0 (subst IsFailed is failed))

  -- the compaction that the job asks for
  pub compacted_then : (name_of : L → Bytes) (name_text : (v : X) × O v → Bytes) (old new last : Index L P X Y O F p g)
      (wanted : Bool) → last ≡ new → wanted ≡ true
      → ((commands : Commands) → StandsFor name_of name_text old commands
      → StandsFor name_of name_text new (commands ▸ compact))
      → Follows (StandsFor name_of name_text old) (StandsFor name_of name_text last) (compacted wanted)
  compacted_then name_of name_text old new last wanted is on then = record {
    stands = λ commands stands.
        subst (λ b. StandsFor name_of name_text last (followed_by commands (compacted b))) (sym on)
        (subst (λ i. StandsFor name_of name_text i (commands ▸ compact)) (sym is) (then commands stands));
  }

  pub compacted_not : (name_of : L → Bytes) (name_text : (v : X) × O v → Bytes) (old last : Index L P X Y O F p g)
      (wanted : Bool) → last ≡ old → wanted ≡ false
      → Follows (StandsFor name_of name_text old) (StandsFor name_of name_text last) (compacted wanted)
  compacted_not name_of name_text old last wanted is off = record {
    stands = λ commands stands.
        subst (λ b. StandsFor name_of name_text last (followed_by commands (compacted b))) (sym off)
        (subst (λ i. StandsFor name_of name_text i commands) (sym is) stands);
  }

  -- the values of a document are not too many
  pub fits_told : (old new : Index L P X Y O F p g) (doc : held.Document) (lists : List (List Text))
      (given : List FieldValue) → choices_of new ≡ choices_of old → AreGiven (document_told doc).values lists given
      → ¬ (length (fields_of new) < length given) → length (document_told doc).values ≤ length (fields_of old)
  fits_told old new doc lists given same are fits =
      let long = as_long (document_told doc).values lists given are in
      let fields_long : length (fields_of new) ≡ length (fields_of old) = ap (λ c. length c.fields) same in
      elim (cases_lt (length (fields_of new)) (length given)) [
        | inl over ↦ absurd (fits over)
        | inr within ↦
            omega arith
      ]

  -- they are too many
  pub too_many_told : (old new : Index L P X Y O F p g) (doc : held.Document) (lists : List (List Text))
      (given : List FieldValue) → choices_of new ≡ choices_of old → AreGiven (document_told doc).values lists given
      → length (fields_of new) < length given → HasTooMany (fields_of old) (document_told doc)
  too_many_told old new doc lists given same are many =
      let long = as_long (document_told doc).values lists given are in
      let fields_long : length (fields_of new) ≡ length (fields_of old) = ap (λ c. length c.fields) same in
      omega arith
