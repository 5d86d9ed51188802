-- What a binary search among texts in order finds.
use Rattle.std.proofs.Common.{◌≡◌, ◌<◌, ◌≤◌, ◌+◌, ℕ, true, false, List, length, get_or, String, Global}
use Rattle.std.proofs.Common.{Result, Ok, Err, Less, Equal, Greater, string_bytes, bytes_eq, is_eq, sym, ap, ◌∙◌, arith}
use Rattle.std.specs.List.Sorted.{IsBinarySearchResult, IsSearchInRange, IsSortedBy, IsStrictlySortedBy}
use Rattle.std.specs.Ordering.{is_lt, ordering_reverse}
use Rattle.std.specs.Prelude.{is_ok, string_cmp}
use Rattle.std.specs.declared.cmp.Ordering.{Ordering}
use Rattle.std.proofs.lemmas.Bool.{cases_lt}
use Rattle.std.proofs.lemmas.Cmp.{nat_list_cmp_total}
use Rattle.std.proofs.lemmas.List.{get_or-map, length-map}
use Rattle.std.proofs.lemmas.List.Folds.{list_any_at, list_any_none}
use Rattle.std.proofs.lemmas.List.Sorted.{searchable_from_sorted}
use Rattle.std.proofs.lemmas.Map.Keys.{Less-from_sorted}
use Rattle.std.proofs.lemmas.Map.Text.{is_eq-slice_cmp}
use Rattle.std.proofs.Common.{◌⊎◌, inl, inr}
use Rattle.elasticlunr_text.specs.Text.{Bytes, bytes_of, is_listed, text_cmp}

module _ (x : String Global) (xs : List (String Global)) where
  -- whether two texts are equal, by how they compare
  equal_by : (y : String Global) (o : Ordering) → text_cmp (string_bytes y) (string_bytes x) ≡ o
      → bytes_eq (string_bytes x) (string_bytes y) ≡ is_eq (ordering_reverse o)
  equal_by y o is = sym (is_eq-slice_cmp (string_bytes x) (string_bytes y))
      ∙ ap is_eq (nat_list_cmp_total.antisymm (string_bytes x) (string_bytes y) ∙ ap ordering_reverse is)

  at_place : (i : ℕ) (d : Bytes) → i < length xs → get_or (bytes_of xs) i d ≡ string_bytes (get_or xs i x)
  at_place i d lt = get_or-map string_bytes xs i x d lt

  found : (i : ℕ) → i < length xs → text_cmp (string_bytes (get_or xs i x)) (string_bytes x) ≡ Equal
      → is_listed (string_bytes x) (bytes_of xs) ≡ true
  found i lt is = list_any_at (bytes_eq (string_bytes x)) (bytes_of xs) i (string_bytes x)
      (omega (arith, length-map xs string_bytes))
      (ap (bytes_eq (string_bytes x)) (at_place i (string_bytes x) lt) ∙ equal_by (get_or xs i x) Equal is)

  missing : (i : ℕ) → ((k : ℕ) → k < i → text_cmp (string_bytes (get_or xs k x)) (string_bytes x) ≡ Less)
      → ((k : ℕ) → i ≤ k → k < length xs → text_cmp (string_bytes (get_or xs k x)) (string_bytes x) ≡ Greater)
      → is_listed (string_bytes x) (bytes_of xs) ≡ false
  missing i below above = list_any_none (bytes_eq (string_bytes x)) (bytes_of xs) (λ k d lt.
      let inside : k < length xs = omega (arith, length-map xs string_bytes) in
      ap (bytes_eq (string_bytes x)) (at_place k d inside) ∙ here k inside (cases_lt k i)) where
        here : (k : ℕ) → k < length xs → (k < i) ⊎ (i ≤ k)
            → bytes_eq (string_bytes x) (string_bytes (get_or xs k x)) ≡ false
        here k lt (inl l) = equal_by (get_or xs k x) Less (below k l)
        here k lt (inr g) = equal_by (get_or xs k x) Greater (above k g lt)

  module _ (sorted : IsStrictlySortedBy text_cmp (bytes_of xs)) where
    up : (k : ℕ) (d : String Global) → k + 1 < length xs
        → text_cmp (string_bytes (get_or xs k d)) (string_bytes (get_or xs (k + 1) d)) ≡ Less
    up k d lt =
        let first : k < length xs = omega arith in
        let e = λ (i : ℕ) (h : i < length xs). get_or-map string_bytes xs i d (string_bytes d) h in
        (λ j. text_cmp (sym (e k first) j) (sym (e (k + 1) lt) j))
        ∙ Less-from_sorted text_cmp (bytes_of xs) k (k + 1) (string_bytes d) sorted (omega arith)
        (omega (arith, length-map xs string_bytes))

    in_order : IsSortedBy (λ a b. is_lt (text_cmp (string_bytes a) (string_bytes b))) xs
    in_order k d low lt = ap is_lt (nat_list_cmp_total.antisymm (string_bytes (get_or xs (k + 1) d))
        (string_bytes (get_or xs k d)) ∙ ap ordering_reverse (up k d lt))

    -- a search says whether the text is listed
    pub searched : (r : Result ℕ ℕ) → IsSearchInRange r (length xs) → IsBinarySearchResult (λ y. string_cmp y x) xs r
        → is_ok r ≡ is_listed (string_bytes x) (bytes_of xs)
    searched (Ok i) lt at = sym (found i lt (at x))
    searched (Err i) le point =
        let parts = point (searchable_from_sorted nat_list_cmp_total string_bytes xs (string_bytes x) in_order) in
        sym (missing i (λ k l. parts.0 k x (omega arith) l) (λ k g lt. parts.1 k x g lt))
