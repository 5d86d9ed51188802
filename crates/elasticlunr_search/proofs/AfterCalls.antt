-- What is found after calls is what is found after their commands.
use Rattle.std.proofs.Common.{◌≡◌, ◌↔◌, ℕ, List, Some}
use Rattle.std.specs.Prelude.{Contains}
use Rattle.std.specs.List.{slice_get}
use Rattle.elasticlunr_text.specs.Text.{Text, Bytes}
use Rattle.elasticlunr.specs.Calls.{Call}
use Rattle.elasticlunr.specs.Found.{AreExactly}
use Rattle.elasticlunr.specs.FoundAfter.{HasTokenAfter}
use Rattle.elasticlunr.specs.History.{Commands}
use Rattle.elasticlunr.specs.ReadDocuments.{HasReadToken}
use Rattle.elasticlunr_search.specs.AfterCalls.{FindsAcrossAfter, FindsAfter, FindsInFieldsAfter, IsFoundAcrossAfter}
use Rattle.elasticlunr_search.specs.AfterCalls.{IsFoundAfter}
use Rattle.elasticlunr_search.specs.Words.{AreNumbersOf, Finds, IsFoundAcross, IsFoundFor}
use Rattle.elasticlunr_search.specs.declared.words.Join.{Join}
use Rattle.elasticlunr_search.specs.declared.words.Join.TheVariants.{Any, All}

-- those of which the one holds are those of which the other does
those_as : (P Q : Bytes → Type 0) (found : List Bytes) → ((r : Bytes) → P r ↔ Q r) → AreExactly P found
    → AreExactly Q found
those_as P Q found same are = record {
  sorted = are.sorted;
  exact =
      λ r. ((λ there. (same r).0 ((are.exact r).0 there)), (λ holds. (are.exact r).1 ((same r).1 holds)));
}

-- In each lemma the commands of the calls leave a reference the tokens that it has after the calls.
module _ (reads : ℕ → Bytes → List Text → Type 0) (fields : List Bytes) (reference_field : Bytes) (calls : List Call)
    (commands : Commands)
    (tell : (i : ℕ) (r : Bytes) (token : Text) → HasReadToken reads commands i r token
    ↔ HasTokenAfter reads fields reference_field calls i r token) where
  found_as : (join : Join) (i : ℕ) (query r : Bytes) → IsFoundFor reads join commands i query r
      ↔ IsFoundAfter reads fields reference_field calls join i query r
  found_as Any i query r = (
    λ is. (is.0, is.1, (tell i r is.0).0 is.2),
    λ is. (is.0, is.1, (tell i r is.0).1 is.2),
  )
  found_as All i query r = (
    λ is. (is.0, λ token asks. (tell i r token).0 (is.1 token asks)),
    λ is. (is.0, λ token asks. (tell i r token).1 (is.1 token asks)),
  )

  across_as : (numbers : List ℕ) (query r : Bytes) → IsFoundAcross reads commands numbers query r
      ↔ IsFoundAcrossAfter reads fields reference_field calls numbers query r
  across_as numbers query r = (
    λ is. (is.0, λ i token among asks. let at = is.1 i token among asks in (at.0, at.1, (tell at.0 r token).0 at.2)),
    λ is. (is.0, λ i token among asks. let at = is.1 i token among asks in (at.0, at.1, (tell at.0 r token).1 at.2)),
  )

  pub finds_after : (join : Join) (field query : Bytes) (found : List Bytes) → (i : ℕ)
      × (slice_get fields i ≡ Some field) × Finds reads join commands i query found
      → FindsAfter reads fields reference_field calls join field query found
  finds_after join field query found is = (is.0, is.1, those_as _ _ found (found_as join is.0 query) is.2)

  pub finds_in_fields_after : (join : Join) (names : List Bytes) (query : Bytes) (found : List Bytes)
      → (numbers : List ℕ) × AreNumbersOf fields names numbers
      × AreExactly (λ r. (i : ℕ) × Contains numbers i × IsFoundFor reads join commands i query r) found
      → FindsInFieldsAfter reads fields reference_field calls join names query found
  finds_in_fields_after join names query found is = (
    is.0,
    is.1,
    those_as _ _ found (λ r. (
      λ at. (at.0, at.1, (found_as join at.0 query r).0 at.2),
      λ at. (at.0, at.1, (found_as join at.0 query r).1 at.2),
    )) is.2,
  )

  pub finds_across_after : (names : List Bytes) (query : Bytes) (found : List Bytes)
      → (numbers : List ℕ) × AreNumbersOf fields names numbers × AreExactly (IsFoundAcross reads commands numbers query)
      found
      → FindsAcrossAfter reads fields reference_field calls names query found
  finds_across_after names query found is = (is.0, is.1, those_as _ _ found (across_as is.0 query) is.2)
