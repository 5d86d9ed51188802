-- On lines that are read one by one.
use Rattle.std.proofs.Common.{◌≡◌, ◌+◌, List, [], ◌∷◌, ◌++◌, length, take, map, Option, None, Some, inl, inr}
use Rattle.std.proofs.Common.{refl, sym, ap, subst, ◌∙◌, arith}
use Rattle.std.specs.List.{slice_get}
use Rattle.serde_json.specs.Data.{Data}
use Rattle.elasticlunr_text.specs.Text.{Bytes}
use Rattle.elasticlunr_job.specs.Answer.{FailsAt, OfIndex}
use Rattle.elasticlunr_job_format.specs.Job.{Document}
use Rattle.elasticlunr_job_format.specs.Lines.{readings, AreLineValues}
use Rattle.elasticlunr_documents.specs.Lines.{IsMadeOfLines}
use Rattle.elasticlunr_job_format.specs.Objects as objects
use Rattle.elasticlunr_job_format.specs.Objects.{AreDocumentsOf, HasProblem, IsFirstProblem}
use Rattle.elasticlunr_documents.specs.Objects.{IsMadeOfObjects, job_of}
use Rattle.elasticlunr_documents.specs.declared.objects.ObjectsError.TheVariants as error
use Rattle.elasticlunr_job_format.specs.declared.objects.ObjectFault.{ObjectFault}
use Rattle.elasticlunr_job_format.specs.declared.outcome.Refusal.{Refusal}
use Rattle.elasticlunr_job_format.specs.declared.outcome.Refusal.TheVariants.{NotJson, NotAJob, UnknownLanguage}
use Rattle.elasticlunr_job_format.specs.declared.outcome.Refusal.TheVariants.{DuplicateField, TooManyValues}
use Rattle.elasticlunr_input.specs.Asked.{options_of, options_with, reference_key_of}
use Rattle.elasticlunr_input.specs.Fields.{fields_of_first, text_keys}
use Rattle.elasticlunr_input.specs.Lines.{IsLinesMadeWith}
use Rattle.elasticlunr_input.specs.Refused.{FailLines, FailObjects, HasUnreadLine}
use Rattle.elasticlunr_input.specs.Settled.{Settings}
use Rattle.elasticlunr_input.proofs.LinesBy.{FailLinesOf}

-- the values of a text begin with those that were read, and the next
parts : (before items : List Data) (d : Data) (more : List (Option Data)) → map Some before ++ Some d ∷ more
    ≡ map Some items → (take (length before) items ≡ before) × (slice_get items (length before) ≡ Some d)
parts [] [] d more e = absurd (cc)
parts [] (x ∷ items) d more e = (refl, let same : x ≡ d = cc in ap Some same)
parts (b ∷ before) [] d more e = absurd (cc)
parts (b ∷ before) (x ∷ items) d more e =
    let tails : map Some before ++ Some d ∷ more ≡ map Some items = cc in
    let heads : x ≡ b = cc in
    let rest = parts before items d more tails in
    (ap (λ y. y ∷ take (length before) items) heads ∙ ap (λ ys. b ∷ ys) rest.0, rest.1)

-- it is the first that is no document
pub first_among : (options : objects.Options) (before items : List Data) (docs : List Document) (d : Data)
    (more : List (Option Data)) (problem : ObjectFault) → map Some before ++ Some d ∷ more ≡ map Some items
    → AreDocumentsOf options before docs → HasProblem options d problem
    → IsFirstProblem options items (length before + 1) problem
first_among options before items docs d more problem e are has =
    let at = parts before items d more e in
    record {
      i = length before;
      item = d;
      before = docs;
      place_is = refl;
      documents = subst (λ ds. AreDocumentsOf options ds docs) (sym at.0) are;
      there = at.1;
      has = has;
    }

pub object_fault_among : (options : objects.Options) (before items : List Data) (docs : List Document) (d : Data)
    (more : List (Option Data)) (problem : ObjectFault) → map Some before ++ Some d ∷ more ≡ map Some items
    → AreDocumentsOf options before docs → HasProblem options d problem → FailObjects options items
object_fault_among options before items docs d more problem e are has = (
  error.Document (length before + 1) problem,
  (λ same. (cc)),
  first_among options before items docs d more problem e
      are has,
)

-- the fields of the first value alone are those of the first of all
first_alike : (key : Bytes) (first items : List Data) → map Some first ≡ take 1 (map Some items)
    → fields_of_first key first ≡ fields_of_first key items
first_alike key [] [] e = refl
first_alike key [] (d ∷ items) e = absurd (cc)
first_alike key (v ∷ first) [] e = absurd (cc)
first_alike key (v ∷ first) (d ∷ items) e = let same : v ≡ d = cc in ap (text_keys key) same

module _ (settings : Settings) (text : Bytes) (options : objects.Options) (first : List Data) (begins : map Some first
    ≡ take 1 (readings text)) (told : options ≡ options_of settings first) where
  pub first_options : (items : List Data) → AreLineValues text items → options ≡ options_of settings items
  first_options items are = told ∙ ap (options_with settings)
      (first_alike (reference_key_of settings) first items (begins ∙ ap (take 1) (sym are)))

  pub made_with : (Is : OfIndex) → IsMadeOfLines options text Is → IsLinesMadeWith settings text Is
  made_with Is is = (is.0, is.1, subst (λ o. IsMadeOfObjects o is.0 Is) (first_options is.0 is.1) is.2)

  -- the options for the first values are the same
  pub unread_with : HasUnreadLine (λ _. options) text → HasUnreadLine (options_of settings) text
  unread_with unread = (unread.0, unread.1, unread.2, at unread.0 unread.1 unread.2 unread.3 unread.4, unread.4) where
    at : (before : List Data) (docs : List Document) (rest : List (Option Data)) → AreDocumentsOf options before docs
        → map Some before ++ None ∷ rest ≡ readings text → AreDocumentsOf (options_of settings before) before docs
    at [] [] rest are lines = tt
    at [] (doc ∷ docs) rest are lines = absurd are
    at (d ∷ before) docs rest are lines =
        let key = reference_key_of settings in
        let one : map Some first ≡ take 1 (map Some (d ∷ before)) = begins ∙ ap (take 1) (sym lines) in
        let same : options ≡ options_of settings (d ∷ before) = told
        ∙ ap (options_with settings)
        (first_alike key first (d ∷ before) one) in
        subst (λ (o : objects.Options). AreDocumentsOf o (d ∷ before) docs) same are

  pub fail_with : FailLinesOf options text → FailLines settings text
  unfolding unread_with
  fail_with fails = elim fails [
    | inl unread ↦ inl (unread_with unread)
    | inr f ↦ inr (f.0, f.1, subst (λ o. FailObjects o f.0) (first_options f.0 f.1) f.2)
  ]

-- the options fail with any documents as they do with none
pub fails_also : (options : objects.Options) (docs : List Document) (refusal : Refusal)
    → FailsAt (job_of options []) refusal → FailsAt (job_of options docs) refusal
fails_also options docs NotJson fails = fails
fails_also options docs NotAJob fails = fails
fails_also options docs UnknownLanguage fails = fails
fails_also options docs DuplicateField fails = fails
fails_also options docs TooManyValues fails = absurd (omega (arith, fails.2.2))
