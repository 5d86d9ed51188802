-- A search as its user sees it: of texts in documents, by a text.
use Rattle.std.specs.Prelude.{◌≡◌, ◌≢◌, ℕ, List, [], ◌∷◌, Option, Some, None, Contains, slice_get}
use Rattle.std.specs.List.{AllZip}
use Rattle.elasticlunr_text.specs.Text.{Text, Bytes}
use Rattle.elasticlunr.specs.Found.{AreExactly, FindsAny, FindsAll}
use Rattle.elasticlunr.specs.History.{Commands}
use Rattle.elasticlunr.specs.ReadDocuments.{AreRead, HasReadToken}
use Rattle.elasticlunr.specs.Standing.{Plan}
use Rattle.elasticlunr_search.specs.declared.words.Join.{Join}
use Rattle.elasticlunr_search.specs.declared.words.Join.TheVariants.{Any, All}

-- these are the numbers of fields of these names, in order
abbrev pub AreNumbersOf : (fields names : List Bytes) → List ℕ → Type 0
AreNumbersOf fields names numbers = AllZip (λ name i. slice_get fields i ≡ Some name) names numbers

-- the names of the fields in which is searched: this one, or else all
abbrev pub asked_fields : Option Bytes → (all : List Bytes) → List Bytes
asked_fields None all = all
asked_fields (Some field) all = field ∷ []

-- `FindsAny` or `FindsAll`, as the join says
abbrev pub FindsJoined : Join → Commands → ℕ → List Text → List Bytes → Type 0
FindsJoined Any = FindsAny
FindsJoined All = FindsAll

-- In each definition `reads` relates the number of a field and a text to the tokens that a language
-- reads of it.
module _ (reads : ℕ → Bytes → List Text → Type 0) where
  -- the query has the token, which is not empty
  abbrev pub Asks : ℕ → Bytes → Text → Type 0
  Asks i query token = (token ≢ [])
      × ((tokens : List Text) × reads i query tokens × Contains tokens token)

  -- the reference's current document has, in the field of this number, a token that the query has,
  -- or each that it has, of which there is one at least
  abbrev pub IsFoundFor : Join → Commands → ℕ → (query reference : Bytes) → Type 0
  IsFoundFor Any commands i query r = (token : Text) × Asks i query token
      × HasReadToken reads commands i r token
  IsFoundFor All commands i query r = ((token : Text) × Asks i query token)
      × ((token : Text) → Asks i query token → HasReadToken reads commands i r token)

  -- these are the references that are found for the query in this field
  abbrev pub Finds : Join → Commands → ℕ → Bytes → List Bytes → Type 0
  Finds join commands i query = AreExactly (IsFoundFor join commands i query)

  -- where the documents were read so, these references are found of the query's text in the field
  -- of this name
  abbrev pub FindsInField : Join → Plan → Commands → (field query : Bytes) → List Bytes → Type 0
  FindsInField join plan commands field query found = AreRead reads plan.fields plan.reference_field
      commands
      → (i : ℕ) × (slice_get plan.fields i ≡ Some field) × Finds join commands i query found

  -- where they were read so, these references are found of it in one or more of the fields of these
  -- names
  abbrev pub FindsInFields : Join → Plan → Commands → (names : List Bytes) → (query : Bytes)
      → List Bytes → Type 0
  FindsInFields join plan commands names query found = AreRead reads plan.fields
      plan.reference_field commands
      → (numbers : List ℕ) × AreNumbersOf plan.fields names numbers
      × AreExactly (λ r. (i : ℕ) × Contains numbers i × IsFoundFor join commands i query r)
      found

  -- the query has a token, and each token that it has the reference's current document has in one
  -- or more of the fields of these numbers
  abbrev pub IsFoundAcross : Commands → List ℕ → (query reference : Bytes) → Type 0
  IsFoundAcross commands numbers query r = ((i : ℕ) × Contains numbers i
      × ((token : Text) × Asks i query token))
      × ((i : ℕ) (token : Text) → Contains numbers i → Asks i query token → (j : ℕ)
      × Contains numbers j × HasReadToken reads commands j r token)

  -- where the documents were read so, these references have each token of the query in one or more
  -- of the fields of these names
  abbrev pub FindsAcrossFields : Plan → Commands → (names : List Bytes) → (query : Bytes)
      → List Bytes → Type 0
  FindsAcrossFields plan commands names query found = AreRead reads plan.fields plan.reference_field
      commands
      → (numbers : List ℕ) × AreNumbersOf plan.fields names numbers
      × AreExactly (IsFoundAcross commands numbers query) found

  -- in one or more of the fields of these names they have a token of the query, or each, as the
  -- join says
  abbrev pub FindsWithinFields : Join → Plan → Commands → (names : List Bytes) → (query : Bytes)
      → List Bytes → Type 0
  FindsWithinFields Any = FindsInFields Any
  FindsWithinFields All = FindsAcrossFields
