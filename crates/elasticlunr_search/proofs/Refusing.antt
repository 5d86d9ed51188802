-- A printed text is refused out of memory, for its depth, for its language or for its stages alone.
use Rattle.std.proofs.Common.{◌≡◌, ◌≢◌, ◌⊎◌, inl, inr, ◌<◌, ℕ, List, None, Some, Result, Err}
use Rattle.std.proofs.Common.{arith, refl, sym, subst, ◌∙◌}
use Rattle.std.proofs.lemmas.Bool.{cases_lt}
use Rattle.serde_json.specs.Data.{Data, depth}
use Rattle.serde_json.specs.Read.{max_depth}
use Rattle.elasticlunr_text.specs.Text.{Bytes}
use Rattle.elasticlunr_store.specs.Contents.{Contents, IsConsistent}
use Rattle.elasticlunr_trie.specs.Table.{Table}
use Rattle.elasticlunr.specs.History.{Commands}
use Rattle.elasticlunr.specs.Printed.{IsPrintOf}
use Rattle.elasticlunr.specs.Shape.{HasFields, HasLanguage, HasParts}
use Rattle.elasticlunr.specs.Standing.{Plan}
use Rattle.elasticlunr_search.specs.Fields.{HasStages, HasWholeTries}
use Rattle.elasticlunr_search.specs.Refusal.{Lacks, NamesOther, RefusesOthers, RefusesValue, Refuses}
use Rattle.elasticlunr_search.specs.declared.error.SearchError.{SearchError}
use Rattle.elasticlunr_search.specs.declared.error.SearchError.TheVariants.{NotRead, TooDeep, OtherLanguage}
use Rattle.elasticlunr_search.specs.declared.error.SearchError.TheVariants.{OtherPipeline, BadFields, BadTries, BadStore}
use Rattle.elasticlunr_search.specs.declared.error.SearchError.TheVariants.{NoSuchField, Memory}
use Rattle.elasticlunr_search.proofs.Stages.{stages_held}
use Rattle.elasticlunr_search.proofs.Whole.{of_parts}

-- what the library says of the fields of a value
abbrev pub FieldsOnce : Type 0
FieldsOnce = (v : Data) (names others : List Bytes) → HasFields v names → HasFields v others → names ≡ others

-- a value that has its parts lacks none
lacks_none : FieldsOnce → (v : Data) (fields : List Bytes) (tables : List Table) (contents : Contents)
    → HasParts v fields tables contents
    → IsConsistent contents → (e : SearchError) → Lacks v e → e ≡ Memory
lacks_none once v fields tables contents has are NotRead lacks = absurd lacks
lacks_none once v fields tables contents has are TooDeep lacks = absurd lacks
lacks_none once v fields tables contents has are OtherLanguage lacks = absurd lacks
lacks_none once v fields tables contents has are OtherPipeline lacks = absurd lacks
lacks_none once v fields tables contents has are BadFields lacks = absurd (lacks fields has.fields)
lacks_none once v fields tables contents has are BadTries lacks =
    absurd (lacks.2 tables (subst (λ ns. HasWholeTries v ns tables) (once v fields lacks.0 has.fields lacks.1)
    (of_parts v fields tables contents has are).tries))
lacks_none once v fields tables contents has are BadStore lacks = absurd (lacks contents are has.store)
lacks_none once v fields tables contents has are NoSuchField lacks = absurd lacks
lacks_none once v fields tables contents has are Memory lacks = refl

-- a printed text is refused out of memory, for its depth, for its language, or for its stages
pub accepted : ((v : Data) (name other : Bytes) → HasLanguage v name → HasLanguage v other → name ≡ other)
    → FieldsOnce → (language : Bytes) (stages : List Bytes) (text : List ℕ) (e : SearchError)
    → Refuses language stages text e → (plan : Plan) (commands : Commands) (p : IsPrintOf plan commands text)
    → HasParts p.value plan.fields p.tables p.contents → HasLanguage p.value plan.language → (e ≡ Memory)
    ⊎ (((e ≡ TooDeep) × (max_depth < depth p.value))
    ⊎ (((e ≡ OtherLanguage) × (plan.language ≢ language)) ⊎ ((e ≡ OtherPipeline) × (plan.stages ≢ stages))))
accepted one once language stages text e refuses plan commands p has names = by_reading refuses where
  its_stages : HasStages p.value plan.stages
  its_stages = stages_held plan p.tables p.contents p.value p.printed

  by_value : RefusesValue language stages p.value e
      → (e ≡ Memory) ⊎ (((e ≡ TooDeep) × (max_depth < depth p.value))
      ⊎ (((e ≡ OtherLanguage) × (plan.language ≢ language)) ⊎ ((e ≡ OtherPipeline) × (plan.stages ≢ stages))))
  by_value r = elim r [
    | inl other ↦ inr (inr (inl (
      other.0,
      λ same. other.1.2 (one p.value other.1.0 plan.language other.1.1 names
          ∙ same),
    )))
    | inr more ↦ elim more [
      | inl others ↦ inr (inr (inr (others.0, λ same. others.1 (subst (HasStages p.value) same its_stages))))
      | inr lacks ↦ inl (lacks_none once p.value plan.fields p.tables p.contents has p.holds.store.are_contents e lacks)
    ]
  ]

  by_reading : Refuses language stages text e
      → (e ≡ Memory) ⊎ (((e ≡ TooDeep) × (max_depth < depth p.value))
      ⊎ (((e ≡ OtherLanguage) × (plan.language ≢ language)) ⊎ ((e ≡ OtherPipeline) × (plan.stages ≢ stages))))
  by_reading r = elim r [
    | inl unread ↦ elim unread [
      | inl m ↦ inl m
      | inr more ↦ elim more [
        | inl none ↦ (let wrong : None ≡ Some p.value = sym (none.1 (depth p.value))
            ∙ p.read_as.reads_within (depth p.value) (omega arith) in absurd (cc))
        | inr deep ↦ elim (cases_lt max_depth (depth p.value)) [
          | inl deeper ↦ inr (inl (deep.0, deeper))
          | inr shallow ↦ (let wrong : None ≡ Some p.value = sym deep.1.0 ∙ p.read_as.reads shallow in absurd (cc))
        ]
      ]
    ]
    | inr value ↦ by_value (subst (λ w. RefusesValue language stages w e)
        (p.read_as.no_other_within value.1.0 value.0 value.1.1) value.2)
  ]

-- who is refused for another language, or for other stages
module _ {T : Type 0} (language : Bytes) (stages : List Bytes) (v : Data) (r : Result T SearchError) where
  pub others_by_memory : r ≡ Err Memory → RefusesOthers language stages v r
  others_by_memory is = record { other_language = λ other. inr is; other_stages = λ not_other none. inr is }

  pub others_by_language : r ≡ Err OtherLanguage → NamesOther language v → RefusesOthers language stages v r
  others_by_language is other = record {
    other_language = λ _. inl is;
    other_stages = λ not_other none. absurd
        (not_other other);
  }

  pub others_by_stages : r ≡ Err OtherPipeline → ¬ NamesOther language v → RefusesOthers language stages v r
  others_by_stages is not_other = record {
    other_language = λ other. absurd (not_other other);
    other_stages =
        λ _ none. inl is;
  }

  pub no_others : ¬ NamesOther language v → HasStages v stages → RefusesOthers language stages v r
  no_others not_other has = record {
    other_language = λ other. absurd (not_other other);
    other_stages = λ _ none. absurd
        (none has);
  }
