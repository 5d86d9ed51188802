-- What a search of tries answers.
use Rattle.std.specs.Prelude.{◌≡◌, ◌≢◌, ℕ, Bool, List, [], map, Some, IsSome, is_some, Contains}
use Rattle.std.specs.Prelude.{slice_get}
use Rattle.std.specs.Borrow.{Bor}
use Rattle.std.specs.List.{AllZip, list_any}
use Rattle.elasticlunr_text.specs.Text.{Text, Bytes}
use Rattle.elasticlunr_trie.specs.Table.{Table, posting}
use Rattle.elasticlunr.specs.Found.{AreExactly}
use Rattle.elasticlunr_search.specs.Query.{AreTokensOf, IsFound}
use Rattle.elasticlunr_search.specs.declared.words.Join.{Join}
use Rattle.elasticlunr_search.specs.declared.words.Join.TheVariants.{Any, All}

-- the references that have a posting at one of the tokens
abbrev pub HaveAny : Table → List Text → List Bytes → Type 0
HaveAny table tokens = AreExactly (λ r. (token : Text) × Contains tokens token
    × IsSome (posting table token r))

-- the references that have a posting at each token, of which there is one at least
abbrev pub HaveAll : Table → List Text → List Bytes → Type 0
HaveAll table tokens = AreExactly (λ r. (tokens ≢ [])
    × ((token : Text) → Contains tokens token → IsSome (posting table token r)))

-- the tables of tries, in order
abbrev pub tables_of : List (Bor Table) → List Table
tables_of tries = map (λ trie. trie.now) tries

-- whether the reference has a posting at the token in one of the tables
abbrev pub has_among : List Table → Text → Bytes → Bool
has_among tables token r = list_any (λ table. is_some (posting table token r)) tables

-- it has
abbrev pub HasAmong : List Table → Text → Bytes → Type 0
HasAmong tables token r = (table : Table) × Contains tables table × IsSome (posting table token r)

-- the references that have such a posting at each token, of which there is one at least
abbrev pub HaveAllAmong : List Table → List Text → List Bytes → Type 0
HaveAllAmong tables tokens = AreExactly (λ r. (tokens ≢ [])
    × ((token : Text) → Contains tokens token → HasAmong tables token r))

-- `HaveAny` or `HaveAll`, as the join says
abbrev pub Have : Join → Table → List Text → List Bytes → Type 0
Have Any = HaveAny
Have All = HaveAll

-- they are those of the table at this place
abbrev pub HaveAt : List Table → Join → ℕ → List Text → List Bytes → Type 0
HaveAt tables join i tokens found = (table : Table) × (slice_get tables i ≡ Some table)
    × Have join table tokens found

-- In each definition `reads` relates the number of a field and a text to the tokens that a language
-- reads of it, and each field has the table at the same place.
module _ (reads : ℕ → Bytes → List Text → Type 0) (fields : List Bytes) (tables : List Table)
    (join : Join) where
  -- these are the references that have, in the table of the field of this name, a posting at one of
  -- the query's tokens, or at each
  abbrev pub FindsInTrie : (field query : Bytes) → (found : List Bytes) → Type 0
  FindsInTrie = IsFound (HaveAt tables join) reads fields

  -- these are the references that are found so in one or more of the fields of these names, each of
  -- which is a field's
  abbrev pub FindsInTries : (names : List Bytes) → (query : Bytes) → (found : List Bytes) → Type 0
  FindsInTries names query found = (parts : List (List Bytes))
      × AllZip (λ name part. FindsInTrie name query part) names parts
      × AreExactly (λ r. (part : List Bytes) × Contains parts part × Contains part r) found

-- the table is that of the field of this name
abbrev pub IsTrieOf : (fields : List Bytes) → (tables : List Table) → (name : Bytes) → Table
    → Type 0
IsTrieOf fields tables name table = (i : ℕ) × (slice_get fields i ≡ Some name)
    × (slice_get tables i ≡ Some table)

module _ (reads : ℕ → Bytes → List Text → Type 0) (fields : List Bytes) (tables : List Table) where
  -- these are the references that have each of the query's tokens, of which there is one at least,
  -- in the table of one or more of the fields of these names
  pub record FindsAcross (names : List Bytes) (query : Bytes) (found : List Bytes) : Type 0 where
    pub searched : List Table
    pub of_fields : AllZip (IsTrieOf fields tables) names searched
    pub tokens : List Text
    pub of_query : (i : ℕ) → AreTokensOf reads i query tokens
    pub are : HaveAllAmong searched tokens found

  -- in one or more of the fields of these names they have a token of the query, or each, as the
  -- join says
  abbrev pub FindsWithin : Join → (names : List Bytes) → (query : Bytes) → (found : List Bytes)
      → Type 0
  FindsWithin Any = FindsInTries reads fields tables Any
  FindsWithin All = FindsAcross
