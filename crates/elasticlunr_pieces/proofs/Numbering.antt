-- The numbers of references that rise, and texts at places.
use Rattle.std.proofs.Common.{◌≡◌, ◌<◌, ◌+◌, ℕ, suc, Some, List, [], ◌∷◌, length, drop, get_or, refl}
use Rattle.std.proofs.Common.{bytes_eq, ap, ◌∙◌, drop-cons}
use Rattle.std.proofs.Common.{map, sym, arith, zero, None, ◌≤◌}
use Rattle.std.specs.Prelude.{slice_get}
use Rattle.std.specs.Result.{result_ok}
use Rattle.std.specs.Cmp.{Equal-is}
use Rattle.std.specs.Ordering.{ordering_index, ordering_reverse}
use Rattle.std.specs.Borrow.{Bor}
use Rattle.std.specs.List.Sorted.{IsStrictlySortedBy, IsSortedBy, IsNonDecreasingBy, IsPartitionPoint, IsSearchInRange}
use Rattle.std.specs.List.Sorted.{IsBinarySearchResult}
use Rattle.std.proofs.Common.{Bool, true, false, ltb, Less, Equal, Greater, subst, Result, Ok, Err, if◌then◌else◌}
use Rattle.std.proofs.Common.{is_eq, is_lt}
use Rattle.std.proofs.lemmas.List.{drop-map, get_or-drop, get_or-map, length-map}
use Rattle.std.proofs.lemmas.List.Sorted.{searchable_from_sorted}
use Rattle.std.proofs.lemmas.Map.Keys.{Less-from_sorted}
use Rattle.std.proofs.lemmas.Map.Text.{is_eq-slice_cmp}
use Rattle.std.proofs.lemmas.Bool.{ltb-true, ltb-false}
use Rattle.std.proofs.lemmas.Cmp.{nat_list_cmp_total}
use Rattle.std.proofs.lemmas.Slice.Eq.{bytes_eq-Decides}
use Rattle.elasticlunr_error.specs.Text.{Bytes, text_cmp}
use Rattle.elasticlunr_pieces.specs.Entries.{number_from, number_of}
use Rattle.elasticlunr_pieces.specs.Numbers.{told_texts}

-- what stands at a place of a list, and what it becomes
pub mapped_at : {A B : Type 0} (f : A → B) (xs : List A) (n : ℕ) (x : A) (d : B) → n < length xs → x ≡ get_or xs n x
    → get_or (map f xs) n d ≡ f x
mapped_at f xs n x d lt is =
    let split : drop n xs ≡ x ∷ drop (suc n) xs = drop-cons xs n x lt ∙ ap (λ y. y ∷ drop (suc n) xs) (sym is) in
    ap (λ m. get_or (map f xs) m d) (omega arith) ∙ sym (get_or-drop n (map f xs) 0 d)
    ∙ ap (λ l. get_or l 0 d) (drop-map f n xs ∙ ap (map f) split)

pub none_there : {A : Type 0} (xs : List A) (n : ℕ) → length xs ≤ n → slice_get xs n ≡ None
none_there [] n h = refl
none_there (x ∷ xs) zero h = absurd (omega arith)
none_there (x ∷ xs) (suc n) h = none_there xs n (omega arith)

pub some_there : {A : Type 0} (f : A → Bytes) (xs : List A) (n : ℕ) (x : A) → n < length xs → x ≡ get_or xs n x
    → slice_get (map f xs) n ≡ Some (f x)
some_there f [] n x lt is = absurd (omega arith)
some_there f (y ∷ xs) zero x lt is = ap (λ z. Some (f z)) (sym is)
some_there f (y ∷ xs) (suc n) x lt is = some_there f xs n x (omega arith) is

-- a name before another one is not the same, nor is one after it
differs : (a b : Bytes) → text_cmp a b ≡ Less → bytes_eq a b ≡ false
differs a b below = sym (is_eq-slice_cmp a b) ∙ ap is_eq below

differs_after : (a b : Bytes) → text_cmp a b ≡ Greater → bytes_eq a b ≡ false
differs_after a b above = sym (is_eq-slice_cmp a b) ∙ ap is_eq above

same : (a b : Bytes) → text_cmp a b ≡ Equal → bytes_eq a b ≡ true
same a b is = sym (is_eq-slice_cmp a b) ∙ ap is_eq is

-- where names rise, the number of one is its place
numbered_at : (names : List Bytes) (r : Bytes) (n i : ℕ) → IsStrictlySortedBy text_cmp names → i < length names
    → text_cmp (get_or names i []) r ≡ Equal → number_from n names r ≡ Some (n + i)
unfolding IsStrictlySortedBy
numbered_at [] r n i order lt is = absurd (omega (arith, lt))
numbered_at (q ∷ qs) r n zero order lt is = ap (λ b. if b then Some n else number_from (suc n) qs r) (same q r is)
    ∙ ap Some (omega arith)
numbered_at (q ∷ qs) r n (suc i) order lt is =
    let inside : i < length qs = omega (arith, lt) in
    let equal : get_or qs i [] ≡ r = (bytes_eq-Decides (get_or qs i []) r).0 (same (get_or qs i []) r is) in
    let below : text_cmp q r ≡ Less = subst (λ name. text_cmp q name ≡ Less) equal
    (Less-from_sorted text_cmp (q ∷ qs) 0 (suc i) [] order (omega arith) lt) in
    ap (λ b. if b then Some n else number_from (suc n) qs r) (differs q r below)
    ∙ numbered_at qs r (suc n) i order.1 inside is ∙ ap Some (omega arith)

-- a name that stands nowhere has no number
not_numbered : (names : List Bytes) (r : Bytes) (n : ℕ)
    → ((k : ℕ) → k < length names → bytes_eq (get_or names k []) r ≡ false) → number_from n names r ≡ None
not_numbered [] r n none = refl
not_numbered (q ∷ qs) r n none = ap (λ b. if b then Some n else number_from (suc n) qs r) (none 0 (omega arith))
    ∙ not_numbered qs r (suc n) (λ k lt. none (suc k) (omega (arith, lt)))

module _ (names : List (Bor Bytes)) (r : Bytes) (order : IsStrictlySortedBy text_cmp (told_texts names)) where
  at : (k : ℕ) (d : Bor Bytes) → k < length names → get_or (told_texts names) k [] ≡ (get_or names k d).now
  at k d lt = get_or-map (λ y. y.now) names k d [] lt

  counted : length (told_texts names) ≡ length names
  counted = length-map names (λ y. y.now)

  -- the texts rise, as a search asks of them
  searchable : IsNonDecreasingBy (λ y. ordering_index (text_cmp y.now r)) names
  searchable = searchable_from_sorted nat_list_cmp_total (λ y. y.now) names r sorted
    where
      sorted : IsSortedBy (λ a b. is_lt (text_cmp a.now b.now)) names
      sorted k d low high =
          let below = Less-from_sorted text_cmp (told_texts names) k (k + 1) [] order (omega arith)
          (omega (arith, high, counted)) in
          let here : text_cmp (get_or names k d).now (get_or names (k + 1) d).now ≡ Less =
          ap (λ a. text_cmp a (get_or names (k + 1) d).now) (sym (at k d (omega (arith, high))))
          ∙ ap (text_cmp (get_or (told_texts names) k [])) (sym (at (k + 1) d high)) ∙ below in
          ap is_lt (nat_list_cmp_total.antisymm (get_or names (k + 1) d).now (get_or names k d).now
          ∙ ap ordering_reverse here)

  -- the answer of a search, where there is a first text
  found_number : (d : Bor Bytes) (answer : Result ℕ ℕ) → IsSearchInRange answer (length names)
      → IsBinarySearchResult (λ y. text_cmp y.now r) names answer
      → result_ok answer ≡ number_of (told_texts names) r
  found_number d (Ok i) lt is = let none_before : i ≡ 0 + i = omega arith in ap Some none_before
      ∙ sym (numbered_at (told_texts names) r 0 i order (omega (arith, lt, counted))
      (subst (λ q. text_cmp q r ≡ Equal) (sym (at i d lt)) (is d)))
  found_number d (Err i) le split = sym (not_numbered (told_texts names) r 0 none)
    where
      parts : IsPartitionPoint (λ y. text_cmp y.now r ≡ Less) (λ y. text_cmp y.now r ≡ Greater) names i
      parts = split searchable

      by : (k : ℕ) → k < length names → (b : Bool) → ltb k i ≡ b → bytes_eq (get_or names k d).now r ≡ false
      by k lt true low = differs (get_or names k d).now r (parts.0 k d (omega arith) (ltb-true k i low))
      by k lt false high = differs_after (get_or names k d).now r (parts.1 k d (ltb-false k i high) lt)

      none : (k : ℕ) → k < length (told_texts names) → bytes_eq (get_or (told_texts names) k []) r ≡ false
      none k lt =
          let inside : k < length names = omega (arith, lt, counted) in
          ap (λ q. bytes_eq q r) (at k d inside) ∙ by k inside (ltb k i) refl

-- what a search for a reference answers is its number
pub search_numbers : (names : List (Bor Bytes)) (r : Bytes) → IsStrictlySortedBy text_cmp (told_texts names)
    → (answer : Result ℕ ℕ) → IsSearchInRange answer (length names)
    → IsBinarySearchResult (λ y. text_cmp y.now r) names answer
    → result_ok answer ≡ number_of (told_texts names) r
search_numbers [] r order (Ok i) lt is = absurd (omega (arith, lt))
search_numbers [] r order (Err i) le split = refl
search_numbers (name ∷ names) r order answer range is = found_number (name ∷ names) r order name answer range is

-- a name has the number of each place where it stands
pub number_there : (names : List Bytes) (r : Bytes) (n : ℕ) → IsStrictlySortedBy text_cmp names → n < length names
    → bytes_eq (get_or names n []) r ≡ true → number_of names r ≡ Some n
number_there names r n order lt equal =
    let name = get_or names n [] in
    numbered_at names r 0 n order lt ((Equal-is (text_cmp name r)).0 (is_eq-slice_cmp name r ∙ equal))
    ∙ ap Some (omega arith)

-- a text that is borrowed has the number of its place
pub told_number : (texts : List (Bor Bytes)) (n : ℕ) (d : Bor Bytes) → IsStrictlySortedBy text_cmp (told_texts texts)
    → n < length texts → number_of (told_texts texts) (get_or texts n d).now ≡ Some n
told_number texts n d order lt =
    let r = (get_or texts n d).now in
    number_there (told_texts texts) r n order (omega (arith, lt, counted texts r order))
    ((bytes_eq-Decides (get_or (told_texts texts) n []) r).1 (at texts r order n d lt))
