-- Where a binary search among texts that rise ends.
use Rattle.std.proofs.Common.{◌≡◌, ◌≢◌, ◌<◌, ◌≤◌, ◌+◌, ◌-◌, ℕ, Bool, [], List, length, get_or, String, Global, ◌⊎◌, inl, inr}
use Rattle.std.proofs.Common.{Ok, Err, Some, Less, Equal, Greater, string_bytes, sym, ap, ◌∙◌, arith, subst}
use Rattle.std.specs.List.Sorted.{IsBinarySearchResult, IsSearchInRange, IsSortedBy, IsStrictlySortedBy}
use Rattle.std.specs.Ordering.{is_lt, ordering_reverse}
use Rattle.std.specs.Prelude.{nat_eq, slice_get, string_cmp}
use Rattle.std.specs.List.{starts_with}
use Rattle.std.proofs.lemmas.Bool.{cases_lt}
use Rattle.std.proofs.lemmas.Cmp.{nat_list_cmp_total}
use Rattle.std.proofs.lemmas.List.{get_or-map, length-map}
use Rattle.std.proofs.lemmas.List.Sorted.{searchable_from_sorted}
use Rattle.std.proofs.lemmas.Map.Lookups.{exact_bytes}
use Rattle.std.proofs.lemmas.Option.{get_or_from_slice_get, slice_get-get_or, slice_get_within}
use Rattle.std.proofs.lemmas.Map.Keys.{Less-from_sorted, sorted_from_all_adjacent}
use Rattle.elasticlunr_error.specs.Text.{bytes_of, text_cmp}
use Rattle.elasticlunr_piece_head.specs.Choice.{Splits}
use Rattle.elasticlunr_piece_head.proofs.Order.{not_below_itself, not_both, reversed}

-- the bytes of the text at a place
pub bytes_at : (xs : List (String Global)) (k : ℕ) (d : String Global) → k < length xs
    → get_or (bytes_of xs) k [] ≡ string_bytes (get_or xs k d)
bytes_at xs k d lt = get_or-map string_bytes xs k d [] lt

-- whether the text at a place begins so
pub begun_at : (texts : List (String Global)) (beginning text : List ℕ) (place : ℕ) (s : String Global) (b : Bool)
    → place < length texts → s ≡ get_or texts place s → text ≡ string_bytes s → b ≡ starts_with nat_eq text beginning
    → starts_with nat_eq (get_or (bytes_of texts) place []) beginning ≡ b
begun_at texts beginning text place s b lt at same is =
    ap (λ t. starts_with nat_eq t beginning)
    (bytes_at texts place s lt ∙ ap string_bytes (sym at) ∙ sym same) ∙ sym is

-- one text more that is above the one before it
pub rises_more : (texts : List (String Global)) (place : ℕ) (a b : String Global) → 1 ≤ place → place < length texts
    → a ≡ get_or texts (place - 1) a → b ≡ get_or texts place b
    → text_cmp (string_bytes a) (string_bytes b) ≡ Less
    → ((k : ℕ) → k + 1 < place → text_cmp (get_or (bytes_of texts) k []) (get_or (bytes_of texts) (k + 1) []) ≡ Less)
    → (k : ℕ) → k + 1 < place + 1
    → text_cmp (get_or (bytes_of texts) k []) (get_or (bytes_of texts) (k + 1) []) ≡ Less
rises_more texts place a b some lt first second below so_far k low = by (cases_lt (k + 1) place)
  where
    by : (k + 1 < place) ⊎ (place ≤ k + 1)
        → text_cmp (get_or (bytes_of texts) k []) (get_or (bytes_of texts) (k + 1) []) ≡ Less
    by (inl less) = so_far k less
    by (inr ge) =
        let before : k ≡ place - 1 = omega arith in
        let here : k + 1 ≡ place = omega arith in
        let one : get_or (bytes_of texts) k [] ≡ string_bytes a = ap (λ n. get_or (bytes_of texts) n []) before
        ∙ bytes_at texts (place - 1) a (omega arith) ∙ ap string_bytes (sym first) in
        let other : get_or (bytes_of texts) (k + 1) [] ≡ string_bytes b = ap (λ n. get_or (bytes_of texts) n []) here
        ∙ bytes_at texts place b lt ∙ ap string_bytes (sym second) in
        ap (λ t. text_cmp t (get_or (bytes_of texts) (k + 1) [])) one ∙ ap (text_cmp (string_bytes a)) other ∙ below

-- texts of which each is above the one before it
pub all_rise : (texts : List (String Global)) (place : ℕ) → length texts ≤ place
    → ((k : ℕ) → k + 1 < place → text_cmp (get_or (bytes_of texts) k []) (get_or (bytes_of texts) (k + 1) []) ≡ Less)
    → IsStrictlySortedBy text_cmp (bytes_of texts)
all_rise texts place past rising = sorted_from_all_adjacent nat_list_cmp_total (bytes_of texts) []
    (λ k lt. rising k (omega (arith, length-map texts string_bytes)))

-- two texts next to one another of which the second is not above the first
pub no_rise : (texts : List (String Global)) (place : ℕ) (a b : String Global) → 1 ≤ place → place < length texts
    → a ≡ get_or texts (place - 1) a → b ≡ get_or texts place b
    → text_cmp (string_bytes a) (string_bytes b) ≢ Less → IsStrictlySortedBy text_cmp (bytes_of texts) → ⊥
no_rise texts place a b some lt first second none sorted =
    let counted = length-map texts string_bytes in
    let one : get_or (bytes_of texts) (place - 1) [] ≡ string_bytes a =
    bytes_at texts (place - 1) a (omega (arith, some, lt)) ∙ ap string_bytes (sym first) in
    let other : get_or (bytes_of texts) place [] ≡ string_bytes b = bytes_at texts place b lt ∙ ap string_bytes (sym second) in
    none ((λ j. text_cmp (sym one j) (sym other j)) ∙ Less-from_sorted text_cmp (bytes_of texts) (place - 1) place []
    sorted (omega (arith, some)) (omega (arith, lt, counted)))

module _ (x : String Global) (xs : List (String Global)) (sorted : IsStrictlySortedBy text_cmp (bytes_of xs)) where
  counted : length (bytes_of xs) ≡ length xs
  counted = length-map xs string_bytes

  up : (k : ℕ) (d : String Global) → k + 1 < length xs
      → text_cmp (string_bytes (get_or xs k d)) (string_bytes (get_or xs (k + 1) d)) ≡ Less
  up k d lt =
      let first : k < length xs = omega arith in
      let e = λ (i : ℕ) (h : i < length xs). get_or-map string_bytes xs i d (string_bytes d) h in
      (λ j. text_cmp (sym (e k first) j) (sym (e (k + 1) lt) j))
      ∙ Less-from_sorted text_cmp (bytes_of xs) k (k + 1) (string_bytes d) sorted (omega arith)
      (omega (arith, counted))

  in_order : IsSortedBy (λ a b. is_lt (text_cmp (string_bytes a) (string_bytes b))) xs
  in_order k d low lt = ap is_lt (nat_list_cmp_total.antisymm (string_bytes (get_or xs (k + 1) d))
      (string_bytes (get_or xs k d)) ∙ ap ordering_reverse (up k d lt))

  -- where the text stands at this place
  found : (i : ℕ) → i < length xs → text_cmp (get_or (bytes_of xs) i []) (string_bytes x) ≡ Equal
      → Splits (bytes_of xs) (string_bytes x) (i + 1)
  found i lt is = record {
    within = omega (arith, counted);
    below = λ k low. not_above k (cases_lt k i) low;
    above = λ k low high. above k (omega arith) high;
  }
    where
      same : (y : List ℕ) → text_cmp (get_or (bytes_of xs) i []) y ≡ text_cmp (string_bytes x) y
      same y = nat_list_cmp_total.congr (get_or (bytes_of xs) i []) (string_bytes x) y is

      above : (k : ℕ) → i < k → k < length (bytes_of xs)
          → text_cmp (string_bytes x) (get_or (bytes_of xs) k []) ≡ Less
      above k low high = sym (same (get_or (bytes_of xs) k []))
          ∙ Less-from_sorted text_cmp (bytes_of xs) i k [] sorted low high

      not_above : (k : ℕ) → (k < i) ⊎ (i ≤ k) → k < i + 1
          → text_cmp (string_bytes x) (get_or (bytes_of xs) k []) ≢ Less
      not_above k (inl l) low below = not_both (get_or (bytes_of xs) k []) (get_or (bytes_of xs) i [])
          (Less-from_sorted text_cmp (bytes_of xs) k i [] sorted l (omega (arith, lt, counted)))
          (same (get_or (bytes_of xs) k []) ∙ below)
      not_above k (inr g) low below =
          let here : i ≡ k = omega arith in
          not_below_itself (get_or (bytes_of xs) i [])
          (same (get_or (bytes_of xs) i []) ∙ subst (λ n. text_cmp (string_bytes x) (get_or (bytes_of xs) n []) ≡ Less)
          (sym here) below)

  -- where it would stand at this place
  missing : (i : ℕ) → i ≤ length xs
      → ((k : ℕ) → k < i → text_cmp (string_bytes (get_or xs k x)) (string_bytes x) ≡ Less)
      → ((k : ℕ) → i ≤ k → k < length xs → text_cmp (string_bytes (get_or xs k x)) (string_bytes x) ≡ Greater)
      → Splits (bytes_of xs) (string_bytes x) i
  missing i le lower upper = record {
    within = omega (arith, counted);
    below = λ k low is. not_both (get_or (bytes_of xs) k []) (string_bytes x)
        (ap (λ y. text_cmp y (string_bytes x)) (bytes_at xs k x (omega (arith, le))) ∙ lower k low) is;
    above = λ k low high.
        let here : k < length xs = omega (arith, counted) in
        reversed (string_bytes x) (get_or (bytes_of xs) k [])
        ∙ ap ordering_reverse (ap (λ y. text_cmp y (string_bytes x)) (bytes_at xs k x here) ∙ upper k low here);
  }

  -- where the text stands that is found
  pub split_found : (i : ℕ) → IsSearchInRange (Ok i) (length xs) → IsBinarySearchResult (λ y. string_cmp y x) xs (Ok i)
      → Splits (bytes_of xs) (string_bytes x) (i + 1)
  split_found i lt at = found i lt (ap (λ y. text_cmp y (string_bytes x)) (bytes_at xs i x lt) ∙ at x)

  -- where it would stand
  pub split_missing : (i : ℕ) → IsSearchInRange (Err i) (length xs)
      → IsBinarySearchResult (λ y. string_cmp y x) xs (Err i) → Splits (bytes_of xs) (string_bytes x) i
  split_missing i le point =
      let parts = point (searchable_from_sorted nat_list_cmp_total string_bytes xs (string_bytes x) in_order) in
      missing i le (λ k l. parts.0 k x (omega arith) l) (λ k g lt. parts.1 k x g lt)

  -- the text stands where it is found, and nowhere else
  pub found_there : (i : ℕ) → IsSearchInRange (Ok i) (length xs)
      → IsBinarySearchResult (λ y. string_cmp y x) xs (Ok i) → slice_get (bytes_of xs) i ≡ Some (string_bytes x)
  found_there i lt at = slice_get-get_or (bytes_of xs) i [] (omega (arith, lt, counted))
      ∙ ap Some (bytes_at xs i x lt ∙ exact_bytes (string_bytes (get_or xs i x)) (string_bytes x) (at x))

  pub only_there : (i : ℕ) → IsSearchInRange (Ok i) (length xs) → IsBinarySearchResult (λ y. string_cmp y x) xs (Ok i)
      → (k : ℕ) → slice_get (bytes_of xs) k ≡ Some (string_bytes x) → k ≡ i
  only_there i lt at k is = by (cases_lt k i) (cases_lt i k)
    where
      at_k : get_or (bytes_of xs) k [] ≡ string_bytes x
      at_k = get_or_from_slice_get (bytes_of xs) k (string_bytes x) [] is

      at_i : get_or (bytes_of xs) i [] ≡ string_bytes x
      at_i = get_or_from_slice_get (bytes_of xs) i (string_bytes x) [] (found_there i lt at)

      within : k < length (bytes_of xs)
      within = slice_get_within (bytes_of xs) k (string_bytes x) is

      by : (k < i) ⊎ (i ≤ k) → (i < k) ⊎ (k ≤ i) → k ≡ i
      by (inl l) other = absurd (not_below_itself (string_bytes x) ((λ j. text_cmp (sym at_k j) (sym at_i j))
          ∙ Less-from_sorted text_cmp (bytes_of xs) k i [] sorted l (omega (arith, lt, counted))))
      by (inr g) (inl l) = absurd (not_below_itself (string_bytes x) ((λ j. text_cmp (sym at_i j) (sym at_k j))
          ∙ Less-from_sorted text_cmp (bytes_of xs) i k [] sorted l within))
      by (inr g) (inr h) = omega (arith, g, h)

  -- the text stands nowhere where it is not found
  pub absent : (i : ℕ) → IsSearchInRange (Err i) (length xs) → IsBinarySearchResult (λ y. string_cmp y x) xs (Err i)
      → (k : ℕ) → slice_get (bytes_of xs) k ≡ Some (string_bytes x) → ⊥
  absent i le point k is = by (cases_lt k i)
    where
      within : k < length xs
      within = let lt = slice_get_within (bytes_of xs) k (string_bytes x) is in omega (arith, lt, counted)

      here : string_bytes (get_or xs k x) ≡ string_bytes x
      here = sym (bytes_at xs k x within) ∙ get_or_from_slice_get (bytes_of xs) k (string_bytes x) [] is

      itself : text_cmp (string_bytes (get_or xs k x)) (string_bytes x) ≡ text_cmp (string_bytes x) (string_bytes x)
      itself = ap (λ y. text_cmp y (string_bytes x)) here

      by : (k < i) ⊎ (i ≤ k) → ⊥
      by (inl l) =
          let parts = point (searchable_from_sorted nat_list_cmp_total string_bytes xs (string_bytes x) in_order) in
          not_below_itself (string_bytes x) (sym itself ∙ parts.0 k x (omega (arith, within)) l)
      by (inr g) =
          let parts = point (searchable_from_sorted nat_list_cmp_total string_bytes xs (string_bytes x) in_order) in
          let above = sym itself ∙ parts.1 k x g within in
          not_below_itself (string_bytes x) (reversed (string_bytes x) (string_bytes x) ∙ ap ordering_reverse above)
