-- The stages of an index, with stems or without, and why it is refused for others.
use Rattle.std.proofs.Common.{◌≡◌, ◌↔◌, inl, inr, List, Bool, true, false, true≢false, Result, Err, refl, sym, ap}
use Rattle.std.proofs.Common.{subst, ◌∙◌}
use Rattle.std.specs.Result.{IsErrAnd}
use Rattle.std.proofs.lemmas.Result.{err_from_is_err_and}
use Rattle.serde_json.specs.Data.{Data}
use Rattle.elasticlunr_text.specs.Text.{Bytes}
use Rattle.elasticlunr_lang.specs.Known.{language_stages}
use Rattle.elasticlunr_lang.specs.declared.any.AnyLanguage.{AnyLanguage}
use Rattle.elasticlunr_stem_stage.specs.Stemmed.{stages_with}
use Rattle.elasticlunr_search.specs.Fields.{HasStages}
use Rattle.elasticlunr_search.specs.Refusal.{IsUnread, Lacks, RefusesValue}
use Rattle.elasticlunr_search.specs.Unanswered.{refusal_of}
use Rattle.elasticlunr_search.specs.declared.answer.Refusal.TheVariants as refusal
use Rattle.elasticlunr_search.specs.declared.error.SearchError.{SearchError}
use Rattle.elasticlunr_search.specs.declared.error.SearchError.TheVariants.{NotRead, TooDeep, OtherLanguage}
use Rattle.elasticlunr_search.specs.declared.error.SearchError.TheVariants.{OtherPipeline, BadFields, BadTries, BadStore}
use Rattle.elasticlunr_search.specs.declared.error.SearchError.TheVariants.{NoSuchField, Memory}

-- the error of an exit is the one that is returned
pub exit_error : {T E : Type 0} (r : Result T E) (e x : E) → IsErrAnd r (λ y. y ≡ e) → r ≡ Err x → e ≡ x
exit_error r e x is returned =
    let p = err_from_is_err_and r is in
    let same : Err p.0 ≡ Err x = sym p.1 ∙ returned in
    let there : p.0 ≡ x = cc (same) in
    sym p.2 ∙ there

-- a text that is not read is not refused for its stages
pub unread_apart : (text : Bytes) (e : SearchError) → IsUnread text e → ¬ (refusal_of e ≡ refusal.OtherPipeline)
unread_apart text e why is = elim why [
  | inl m ↦ (let wrong : refusal.Memory ≡ refusal.OtherPipeline = ap refusal_of (sym m) ∙ is in cc (wrong))
  | inr more ↦ elim more [
    | inl n ↦ (let wrong : refusal.NotRead ≡ refusal.OtherPipeline = ap refusal_of (sym n.0) ∙ is in cc (wrong))
    | inr d ↦ (let wrong : refusal.TooDeep ≡ refusal.OtherPipeline = ap refusal_of (sym d.0) ∙ is in cc (wrong))
  ]
]

-- a value that is refused for its stages has others
pub not_staged : (language : Bytes) (stages : List Bytes) (v : Data) (e : SearchError) → RefusesValue language stages v e
    → refusal_of e ≡ refusal.OtherPipeline → ¬ HasStages v stages
not_staged language stages v e refuses is = elim refuses [
  | inl other ↦ (let wrong : refusal.UnknownLanguage ≡ refusal.OtherPipeline = ap refusal_of (sym other.0) ∙ is in
      absurd (cc (wrong)))
  | inr more ↦ elim more [ inl others ↦ others.1 | inr lacks ↦ absurd (lacking e lacks is) ]
] where
  lacking : (x : SearchError) → Lacks v x → ¬ (refusal_of x ≡ refusal.OtherPipeline)
  lacking NotRead lacks wrong = lacks
  lacking TooDeep lacks wrong = lacks
  lacking OtherLanguage lacks wrong = lacks
  lacking OtherPipeline lacks wrong = lacks
  lacking BadFields lacks wrong = cc (wrong)
  lacking BadTries lacks wrong = cc (wrong)
  lacking BadStore lacks wrong = cc (wrong)
  lacking NoSuchField lacks wrong = lacks
  lacking Memory lacks wrong = cc (wrong)

-- where a test for the language's own stages fails, the index hasn't these, and the stems are there
pub no_own_stages : (v : Data) (language : AnyLanguage) (stages : List Bytes) (has : Bool)
    → stages ≡ language_stages language → has ≡ true ↔ HasStages v stages → has ≡ false
    → HasStages v (language_stages language) ↔ (true ≡ false)
no_own_stages v language stages has same tests none = (
  λ own. sym (tests.1 (subst (HasStages v) (sym same) own)) ∙ none,
  λ wrong. absurd (true≢false wrong),
)

-- where stems are left away exactly for the language's own stages, what has not the chosen ones has neither
pub has_neither : (v : Data) (language : AnyLanguage) (stems : Bool)
    → HasStages v (language_stages language) ↔ (stems ≡ false) → ¬ HasStages v (stages_with stems language)
    → (other : Bool) → ¬ HasStages v (stages_with other language)
has_neither v language true own none true = none
has_neither v language true own none false = λ has. true≢false (own.0 has)
has_neither v language false own none other = absurd (none (own.1 refl))
