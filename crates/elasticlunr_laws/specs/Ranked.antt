-- What a ranked search of one field finds after calls.
use Rattle.std.specs.Prelude.{◌≡◌, ◌≢◌, ℕ, List, None, Some, false, map, unwrap_or}
use Rattle.std.specs.FinMap.{get}
use Rattle.std.specs.Float.{Float}
use Rattle.std.specs.List.Sorted.{IsPermutation}
use Rattle.elasticlunr.specs.Calls.{Call}
use Rattle.elasticlunr.specs.Text.{Text, Bytes}
use Rattle.elasticlunr_store.specs.Options.{Options}
use Rattle.elasticlunr_store.specs.declared.config.SearchBool.{SearchBool}
use Rattle.elasticlunr_store.specs.declared.config.SearchBool.TheVariants.{Or, And}
use Rattle.elasticlunr_store.specs.declared.config.SearchOptionsField.{SearchOptionsField}
use Rattle.elasticlunr_search.specs.AfterCalls.{FindsAfter}
use Rattle.elasticlunr_search.specs.declared.words.Join.{Join}
use Rattle.elasticlunr_search.specs.declared.words.Join.TheVariants.{Any, All}

-- how search options say it
abbrev pub joined_as : Join → SearchBool
joined_as Any = Or
joined_as All = And

-- the options choose the field of this name alone and join its tokens so; a token represents itself
-- alone, and the boost is not 0
pub record ChooseOne (options : Options) (join : Join) (field : Bytes) : Type 0 where
  pub own : SearchOptionsField
  pub named : get options.fields field ≡ Some own
  pub alone : (name : Bytes) → name ≢ field → get options.fields name ≡ None
  pub joined : unwrap_or own.bool options.bool ≡ joined_as join
  pub itself : unwrap_or own.expand options.expand ≡ false
  pub counts : unwrap_or own.boost 1 ≢ 0

-- the hits are those that are found after the calls of the query in the field of this name, in some
-- order; `reads` relates the number of a field and a text to the tokens that are read of it
abbrev pub RanksAfter : (reads : ℕ → Bytes → List Text → Type 0) → (fields : List Bytes)
    → (reference_field : Bytes) → List Call → Join → (field query : Bytes)
    → (hits : List (Bytes × Float)) → Type 0
RanksAfter reads fields reference_field calls join field query hits = (found : List Bytes)
    × FindsAfter reads fields reference_field calls join field query found
    × IsPermutation found (map (λ hit. hit.0) hits)
