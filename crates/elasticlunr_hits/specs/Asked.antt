-- What is asked for.
use Rattle.std.specs.Prelude.{◌≡◌, ℕ, List, [], ◌∷◌, Option, Some, None, unwrap_or}
use Rattle.std.specs.Prelude.{IfSome, is_some, nat_lt, reverse, take}
use Rattle.std.specs.Borrow.{Bor}
use Rattle.std.specs.FinMap.{get}
use Rattle.std.specs.List.{filter}
use Rattle.std.specs.Map.{lookup}
use Rattle.std.specs.Str.{bytes_eq}
use Rattle.elasticlunr_text.specs.Text.{Bytes}
use Rattle.elasticlunr_store.specs.Options.{Options}
use Rattle.elasticlunr_store.specs.declared.config.SearchBool.{SearchBool}
use Rattle.elasticlunr_store.specs.declared.config.SearchBool.TheVariants.{Or, And}
use Rattle.elasticlunr_store.specs.declared.config.SearchOptionsField.{SearchOptionsField}
use Rattle.elasticlunr.specs.Fields.{borrowed, has_name}
use Rattle.elasticlunr_hits.specs.declared.asked.Asked.{Asked}
use Rattle.elasticlunr_hits.specs.declared.asked.Needed.{Needed}
use Rattle.elasticlunr_hits.specs.declared.asked.Needed.TheVariants.{One, EachInOneField, Each}

-- these names, or else all
abbrev pub names_or_all : (names all : List Bytes) → List Bytes
names_or_all [] all = all
names_or_all (name ∷ names) all = name ∷ names

-- the boost that is given last for the field of this name
abbrev pub last_boost : (boosts : List (Bor Bytes × ℕ)) → (name : Bytes) → Option ℕ
last_boost boosts name = lookup (λ field. bytes_eq field.now name) (reverse boosts)

-- the names whose boost is not 0
abbrev pub boosted : (boosts : List (Bor Bytes × ℕ)) → (names : List Bytes) → List Bytes
boosted boosts names = filter (λ name. nat_lt 0 (unwrap_or (last_boost boosts name) 1)) names

-- how the tokens of the query are joined in a field
abbrev pub join_of : Needed → SearchBool
join_of One = Or
join_of EachInOneField = And
join_of Each = Or

-- a field has this boost, and all other options as the search has them
pub record HasBoost (boost : Option ℕ) (field : SearchOptionsField) : Type 0 where
  pub its_boost : field.boost ≡ boost
  pub bool : field.bool ≡ None
  pub expand : field.expand ≡ None

-- the first of them, at most so many, or else all
abbrev pub at_most : {X : Type 0} → Option ℕ → List X → List X
at_most None xs = xs
at_most (Some limit) xs = take limit xs

module _ (asked : Asked) where
  -- the names of the fields that are searched, in an index with these
  abbrev pub searched : (all : List Bytes) → List Bytes
  searched = names_or_all (borrowed asked.fields.items)

  -- the options are those that are asked for: exactly the fields that are searched have some, each
  -- the boost that is given last for it
  pub record AreOptionsOf (all : List Bytes) (options : Options) : Type 0 where
    pub bool : options.bool ≡ join_of asked.needed
    pub expand : options.expand ≡ asked.expand
    pub names : (name : Bytes) → is_some (get options.fields name) ≡ has_name name (searched all)
    pub boosts : (name : Bytes) → IfSome (get options.fields name)
        (HasBoost (last_boost asked.boosts.items name))
