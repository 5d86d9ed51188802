-- How many values a request has, and why one finds nothing.
use Rattle.std.proofs.Common.{◌≡◌, ◌⊎◌, ◌<◌, inl, inr, ℕ, zero, suc, List, [], ◌∷◌, length, get_or, Option, Result}
use Rattle.std.proofs.Common.{refl, ◌∙◌, sym, subst, arith, None, Some, Bool, true, false, true≢false, bytes_eq, Ok}
use Rattle.std.proofs.Common.{Err}
use Rattle.std.specs.Prelude.{Contains, IsSomeAnd}
use Rattle.std.specs.List.{after_first}
use Rattle.std.specs.Result.{IfErr, IsErrAnd}
use Rattle.std.proofs.lemmas.List.Folds.{list_any_at}
use Rattle.std.proofs.lemmas.Result.{err_from_is_err_and}
use Rattle.std.proofs.lemmas.Slice.Eq.{bytes_eq-Decides}
use Rattle.serde_json.specs.Data.{Data, item, no_items}
use Rattle.serde_json.specs.View.{items_view}
use Rattle.serde_json.specs.declared.value.Value.{Value}
use Rattle.elasticlunr_text.specs.Text.{Bytes}
use Rattle.elasticlunr_lang.specs.Known.{language_name, language_stages}
use Rattle.elasticlunr_lang.specs.declared.any.AnyLanguage.{AnyLanguage}
use Rattle.elasticlunr.specs.Fields.{has_name}
use Rattle.elasticlunr.specs.Shape.{HasLanguage}
use Rattle.elasticlunr_print.proofs.Shapes.{one_language}
use Rattle.elasticlunr_search.specs.Answers.{Asks, HasBelow, is_line_feed}
use Rattle.elasticlunr_search.specs.Fields.{HasNoField, HasStages, IsIndexWith}
use Rattle.elasticlunr_search.specs.Levels.{IsTooDeep}
use Rattle.elasticlunr_search.specs.Readers.{ReadsAs, IsNotJson}
use Rattle.elasticlunr_search.specs.Refusal.{IsUnread, Lacks, RefusesValue}
use Rattle.elasticlunr_search.specs.Unanswered.{IsNotSearched, IsRefusedBelow, IsTextNotSearched, refusal_of}
use Rattle.elasticlunr_search.specs.Words.{asked_fields}
use Rattle.elasticlunr_search.specs.declared.answer.Refusal.{Refusal}
use Rattle.elasticlunr_search.specs.declared.answer.Refusal.TheVariants as refusal
use Rattle.elasticlunr_search.specs.declared.error.SearchError.{SearchError}
use Rattle.elasticlunr_search.specs.declared.error.SearchError.TheVariants.{NotRead, TooDeep, OtherLanguage}
use Rattle.elasticlunr_search.specs.declared.error.SearchError.TheVariants.{OtherPipeline, BadFields, BadTries, BadStore}
use Rattle.elasticlunr_search.specs.declared.error.SearchError.TheVariants.{NoSuchField, Memory}
use Rattle.elasticlunr_search.specs.declared.request.Request.{Request}

-- what has three items has three values
pub three : (values : List Value) (a b d : Data) → items_view values ≡ item a (item b (item d no_items)) → length values
    ≡ 3
three [] a b d is = absurd (cc)
three (x ∷ []) a b d is = absurd (cc)
three (x ∷ y ∷ []) a b d is = absurd (cc)
three (x ∷ y ∷ z ∷ []) a b d is = refl
three (x ∷ y ∷ z ∷ w ∷ values) a b d is = absurd (cc)

-- one of the fields in which is searched is none of all fields only where one was asked for
pub not_asked : (v : Data) (all : List Bytes) → IsIndexWith v all → (field : Option Bytes) → (name : Bytes)
    × Contains (asked_fields field all) name × (has_name name all ≡ false) → IsSomeAnd field (HasNoField v)
not_asked v all is None lacks =
    let there : has_name lacks.0 all ≡ true = list_any_at (λ other. bytes_eq other lacks.0) all lacks.1.0 lacks.0
    lacks.1.1 ((bytes_eq-Decides _ lacks.0).1 lacks.1.2) in
    absurd (true≢false (sym there ∙ lacks.2))
not_asked v all is (Some field) lacks = (
  all,
  is,
  subst (λ name. has_name name all ≡ false)
      (sym (only lacks.1.0 lacks.1.1 lacks.1.2)) lacks.2,
) where
  only : (k : ℕ) → k < 1 → get_or (field ∷ []) k lacks.0 ≡ lacks.0 → field ≡ lacks.0
  only zero lt at = at
  only (suc k) lt at = absurd (omega arith)

-- a field that was searched is there
pub searched : {T : Type 0} {found : T} (there : Bool) → (there ≡ false → Ok found ≡ Err NoSuchField) → there ≡ true
searched true none = refl
searched false none = absurd (let wrong = none refl in cc (wrong))

-- what is not searched of an input refuses it
why_below : (input : Bytes) (request : Request) (v : Data) (e : Refusal) → Asks input request → HasBelow input v
    → IsNotSearched v (Some request.field.now) e → IsRefusedBelow input e
why_below input request v refusal.NotARequest asks below why = absurd why
why_below input request v refusal.NotRead asks below why = absurd why
why_below input request v refusal.TooDeep asks below why = absurd why
why_below input request v refusal.UnknownLanguage asks below why = (request, asks, v, below, why)
why_below input request v refusal.OtherPipeline asks below why = (request, asks, v, below, why)
why_below input request v refusal.NoFields asks below why = (request, asks, v, below, why)
why_below input request v refusal.NoTries asks below why = (request, asks, v, below, why)
why_below input request v refusal.NoStore asks below why = (request, asks, v, below, why)
why_below input request v refusal.NoSuchField asks below why = (request, asks, v, below, why)
why_below input request v refusal.Memory asks below why = tt

-- and so does the error that tells it
pub refused_below : {T : Type 0} (r : Result T Refusal) (input : Bytes) (request : Request) (v : Data) (e : Refusal)
    → IsErrAnd r (λ y. y ≡ e)
    → Asks input request → HasBelow input v → IsNotSearched v (Some request.field.now) e
    → IfErr r (IsRefusedBelow input)
refused_below r input request v e is asks below why =
    let p = err_from_is_err_and r is in
    rw (p.1, p.2) (why_below input request v e asks below why)

-- below a request what is not read is refused
pub unread_below : {T : Type 0} (r : Result T Refusal) (input text : Bytes) (request : Request) (e : SearchError)
    → IsErrAnd r (λ y. y ≡ refusal_of e) → Asks input request → text ≡ after_first is_line_feed input
    → IsUnread text e → IfErr r (IsRefusedBelow input)
unread_below r input text request e is asks at why =
    let p = err_from_is_err_and r is in
    rw (p.1, p.2) (elim why [
      | inl m ↦ rw m tt
      | inr more ↦ elim more [
        | inl n ↦ rw (n.0) (request, asks, subst IsNotJson at n.1)
        | inr d ↦ rw (d.0) (request, asks, subst IsTooDeep at d.1)
      ]
    ])

-- and so is a text that is not read
pub unread_text : {T : Type 0} (r : Result T Refusal) (text : Bytes) (field : Option Bytes) (e : SearchError)
    → IsErrAnd r (λ y. y ≡ refusal_of e)
    → IsUnread text e → IfErr r (IsTextNotSearched text field)
unread_text r text field e is why =
    let p = err_from_is_err_and r is in
    rw (p.1, p.2) (elim why [
      | inl m ↦ rw m tt
      | inr more ↦ elim more [ inl n ↦ rw (n.0) (n.1) | inr d ↦ rw (d.0) (d.1) ]
    ])

-- what is not searched of a value refuses the text that it was read of
pub why_text : (text : Bytes) (v : Data) (field : Option Bytes) (e : Refusal) → ReadsAs text v → IsNotSearched v field e
    → IsTextNotSearched text field e
why_text text v field refusal.NotARequest reads why = absurd why
why_text text v field refusal.NotRead reads why = absurd why
why_text text v field refusal.TooDeep reads why = absurd why
why_text text v field refusal.UnknownLanguage reads why = (v, reads, why)
why_text text v field refusal.OtherPipeline reads why = (v, reads, why)
why_text text v field refusal.NoFields reads why = (v, reads, why)
why_text text v field refusal.NoTries reads why = (v, reads, why)
why_text text v field refusal.NoStore reads why = (v, reads, why)
why_text text v field refusal.NoSuchField reads why = (v, reads, why)
why_text text v field refusal.Memory reads why = tt

-- a query that a searcher refuses is refused for its field, or memory runs out
pub refused_for : (v : Data) (field : Option Bytes) (e : SearchError) → (e ≡ NoSuchField) ⊎ (e ≡ Memory)
    → (e ≡ NoSuchField → IsSomeAnd field (HasNoField v)) → IsNotSearched v field (refusal_of e)
refused_for v field e only none = elim only [ inl n ↦ rw n (none n) | inr m ↦ rw m tt ]

-- why a searcher by the language that a value names, and by stages that the value lacks only where it lacks those of
-- the language, refuses the value
pub not_opened_by : (v : Data) (field : Option Bytes) (language : AnyLanguage) → HasLanguage v (language_name language)
    → (stages : List Bytes) → (¬ HasStages v stages → ¬ HasStages v (language_stages language)) → (e : SearchError)
    → RefusesValue (language_name language) stages v e → IsNotSearched v field (refusal_of e)
not_opened_by v field language named stages none e refuses = elim refuses [
  | inl other ↦ absurd (other.1.2 (one_language v other.1.0 (language_name language) other.1.1 named))
  | inr more ↦ elim more [
    | inl others ↦ subst (λ x. IsNotSearched v field (refusal_of x)) (sym others.0) (language, named, none others.1)
    | inr lacks ↦ lacking e lacks
  ]
] where
  lacking : (x : SearchError) → Lacks v x → IsNotSearched v field (refusal_of x)
  lacking NotRead lacks = absurd lacks
  lacking TooDeep lacks = absurd lacks
  lacking OtherLanguage lacks = absurd lacks
  lacking OtherPipeline lacks = absurd lacks
  lacking BadFields lacks = lacks
  lacking BadTries lacks = lacks
  lacking BadStore lacks = lacks
  lacking NoSuchField lacks = absurd lacks
  lacking Memory lacks = tt

-- why a searcher by the language that a value names refuses the value
pub not_opened : (v : Data) (field : Option Bytes) (language : AnyLanguage) → HasLanguage v (language_name language)
    → (e : SearchError) → RefusesValue (language_name language) (language_stages language) v e
    → IsNotSearched v field (refusal_of e)
not_opened v field language named e refuses =
    not_opened_by v field language named (language_stages language) (λ none. none) e refuses
