-- What a search finds in an index that was printed after calls.
use Rattle.std.specs.Prelude.{◌≡◌, ℕ, List, Option, Some, Contains, slice_get}
use Rattle.elasticlunr_text.specs.Text.{Text, Bytes}
use Rattle.elasticlunr.specs.Calls.{Call}
use Rattle.elasticlunr.specs.Found.{AreExactly}
use Rattle.elasticlunr.specs.FoundAfter.{HasTokenAfter}
use Rattle.elasticlunr.specs.History.{Commands}
use Rattle.elasticlunr.specs.Printed.{IsPrintOf}
use Rattle.elasticlunr.specs.Standing.{Plan}
use Rattle.elasticlunr_search.specs.Standing.{StandsFor}
use Rattle.elasticlunr_search.specs.Words.{AreNumbersOf, Asks}
use Rattle.elasticlunr_search.specs.declared.searcher.Searcher.{Searcher}
use Rattle.elasticlunr_search.specs.declared.words.Join.{Join}
use Rattle.elasticlunr_search.specs.declared.words.Join.TheVariants.{Any, All}

-- of whatever index this text was printed, that is what it searches, by this language
abbrev pub SearchesText : {L P X : Type 0} {O : X → Type 0} {p : _} (leaves_of : L → Text
    → Option Text → Type 0) (leaves : (v : X) × O v → Text → Option Text)
    → Searcher L P X O p → L → (text : List ℕ) → Type 0
SearchesText leaves_of leaves s language text = (plan : Plan) (commands : Commands)
    → IsPrintOf plan commands text → StandsFor leaves_of leaves s language plan commands

-- In each definition `reads` relates the number of a field and a text to the tokens that a language
-- reads of it.
module _ (reads : ℕ → Bytes → List Text → Type 0) (fields : List Bytes) (reference_field : Bytes)
    (calls : List Call) where
  -- after the calls the reference has, in the field of this number, a token that the query has, or
  -- each that it has, of which there is one at least
  abbrev pub IsFoundAfter : Join → ℕ → (query reference : Bytes) → Type 0
  IsFoundAfter Any i query r = (token : Text) × Asks reads i query token
      × HasTokenAfter reads fields reference_field calls i r token
  IsFoundAfter All i query r = ((token : Text) × Asks reads i query token)
      × ((token : Text) → Asks reads i query token → HasTokenAfter reads fields reference_field
      calls i r token)

  -- these are the references that are found so of the query in the field of this name
  abbrev pub FindsAfter : Join → (field query : Bytes) → List Bytes → Type 0
  FindsAfter join field query found = (i : ℕ) × (slice_get fields i ≡ Some field)
      × AreExactly (IsFoundAfter join i query) found

  -- these are found so in one or more of the fields of these names
  abbrev pub FindsInFieldsAfter : Join → (names : List Bytes) → (query : Bytes) → List Bytes
      → Type 0
  FindsInFieldsAfter join names query found = (numbers : List ℕ) × AreNumbersOf fields names numbers
      × AreExactly (λ r. (i : ℕ) × Contains numbers i × IsFoundAfter join i query r) found

  -- the query has a token, and each token that it has the reference has after the calls in one or
  -- more of the fields of these numbers
  abbrev pub IsFoundAcrossAfter : List ℕ → (query reference : Bytes) → Type 0
  IsFoundAcrossAfter numbers query r = ((i : ℕ) × Contains numbers i
      × ((token : Text) × Asks reads i query token))
      × ((i : ℕ) (token : Text) → Contains numbers i → Asks reads i query token → (j : ℕ)
      × Contains numbers j × HasTokenAfter reads fields reference_field calls j r token)

  -- these have so each token of the query in one or more of the fields of these names
  abbrev pub FindsAcrossAfter : (names : List Bytes) → (query : Bytes) → List Bytes → Type 0
  FindsAcrossAfter names query found = (numbers : List ℕ) × AreNumbersOf fields names numbers
      × AreExactly (IsFoundAcrossAfter numbers query) found
