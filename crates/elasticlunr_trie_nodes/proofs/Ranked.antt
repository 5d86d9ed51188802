-- Pairs in the order of the ranks of their names.
use Rattle.std.proofs.Common.{◌≡◌, ◌≢◌, inl, inr, ℕ, zero, suc, ◌<◌, Bool, true, false, cond, eqb, ne_eqb, List, []}
use Rattle.std.proofs.Common.{◌∷◌, length, map, get_or, slice_index, Option, Some, None, option_and_then, refl, sym, ap}
use Rattle.std.proofs.Common.{subst, ◌∙◌, arith, Less, take, drop, ◌++◌, ◌+◌, add-one}
use Rattle.std.specs.Prelude.{T, ◌&&◌}
use Rattle.std.specs.List.{All, AllByRecursion, Contains, IsDistinct}
use Rattle.std.specs.List.Sorted.{IsPermutation, IsNonDecreasingBy}
use Rattle.std.specs.Ordering.{is_lt}
use Rattle.std.specs.FinMap.{len, len-entries, entries, get-from_entries, get-from_sorted, entries-from_sorted}
use Rattle.std.specs.FinMap.Entries.{is_sorted, below_all}
use Rattle.std.proofs.lemmas.Cmp.{nat_list_cmp_total}
use Rattle.std.proofs.lemmas.Bool.{cases_eq, eq-eqb}
use Rattle.std.proofs.lemmas.List.Sorted.{IsPermutation-map, IsPermutation-sym, All-permutation, Contains-permutation}
use Rattle.std.proofs.lemmas.Map.Keys.{IsDistinct-IsPermutation}
use Rattle.elasticlunr_error.specs.Text.{Bytes, text_cmp}
use Rattle.elasticlunr_trie_nodes.specs.Table.{Postings}
use Rattle.elasticlunr_trie_nodes.specs.Pairs.{Pairs, value_of, key_at, IsStrictlySorted}
use Rattle.elasticlunr_trie_nodes.specs.Names.{Names, AreNames, ArePostings, AreRanks, AreThere, named_pairs, number_of}
use Rattle.elasticlunr_trie_nodes.specs.Names.{under_names}
use Rattle.elasticlunr_trie_nodes.proofs.Named.{named_find, pair_place}
use Rattle.elasticlunr_trie_nodes.proofs.Settled.{same_named}

flips : (x y : ℕ) → eqb x y ≡ eqb y x
flips x y = elim (cases_eq x y) [
  | inl same ↦ eq-eqb x y same ∙ sym (eq-eqb y x (sym same))
  | inr apart ↦ ne_eqb x y apart ∙ sym (ne_eqb y x (λ e. apart (sym e)))
]

abbrev keys : Pairs → List ℕ
keys l = map (λ p. p.0) l

keys_above : (x : ℕ) (l : Pairs) → ((j : ℕ) → j < length l → x < key_at l j)
    → AllByRecursion (λ y. eqb x y ≡ false) (keys l)
keys_above x [] above = tt
keys_above x (e ∷ l) above = (
  ne_eqb x e.0 (λ same. let lt = above 0 (omega arith) in omega (arith, same, lt)),
  keys_above x l (λ j lt. above (suc j) (omega arith)),
)

keys_distinct : (l : Pairs) → IsStrictlySorted l → IsDistinct eqb (keys l)
unfolding IsDistinct
keys_distinct [] sorted = tt
keys_distinct (e ∷ l) sorted = (
  keys_above e.0 l (λ j lt. sorted 0 (suc j) (omega arith) (omega arith)),
  keys_distinct l (λ i j lt in_range. sorted (suc i) (suc j) (omega arith) (omega arith)),
)

key_differs : (x : ℕ) (l : Pairs) → AllByRecursion (λ y. eqb x y ≡ false) (keys l) → (j : ℕ) → j < length l
    → eqb x (key_at l j) ≡ false
key_differs x [] all j lt = absurd (omega arith)
key_differs x (e ∷ l) all zero lt = all.0
key_differs x (e ∷ l) all (suc j) lt = key_differs x l all.1 j (omega arith)

apart_at : (l : Pairs) → IsDistinct eqb (keys l) → (i j : ℕ) → i < j → j < length l → key_at l i ≢ key_at l j
unfolding IsDistinct
apart_at [] distinct i j lt in_range same = absurd (omega arith)
apart_at (e ∷ l) distinct zero zero lt in_range same = absurd (omega arith)
apart_at (e ∷ l) distinct zero (suc j) lt in_range same =
    let no = key_differs e.0 l distinct.0 j (omega arith) in
    let yes = eq-eqb e.0 (key_at l j) same in
    absurd (cc)
apart_at (e ∷ l) distinct (suc i) zero lt in_range same = absurd (omega arith)
apart_at (e ∷ l) distinct (suc i) (suc j) lt in_range same = apart_at l distinct.1 i j (omega arith) (omega arith) same

value_listed : (l : Pairs) → IsDistinct eqb (keys l) → (n f k : ℕ) → k < length l → get_or l k (n, f) ≡ (n, f)
    → value_of l n ≡ Some f
unfolding IsDistinct
value_listed [] distinct n f k lt is = absurd (omega arith)
value_listed (e ∷ l) distinct n f zero lt is =
    let key : e.0 ≡ n = ap (λ (p : ℕ × ℕ). p.0) is in
    ap (λ b. cond b (Some e.1) (value_of l n)) (eq-eqb e.0 n key) ∙ ap (λ (p : ℕ × ℕ). Some p.1) is
value_listed (e ∷ l) distinct n f (suc k) lt is =
    let no = one_apart e.0 l distinct.0 n f k (omega arith) is in
    ap (λ b. cond b (Some e.1) (value_of l n)) no ∙ value_listed l distinct.1 n f k (omega arith) is
  where
    one_apart : (x : ℕ) (l : Pairs) → AllByRecursion (λ y. eqb x y ≡ false) (keys l) → (n f k : ℕ) → k < length l
        → get_or l k (n, f) ≡ (n, f) → eqb x n ≡ false
    one_apart x [] all n f k lt is = absurd (omega arith)
    one_apart x (e ∷ l) all n f zero lt is = ap (eqb x) (sym (ap (λ (p : ℕ × ℕ). p.0) is)) ∙ all.0
    one_apart x (e ∷ l) all n f (suc k) lt is = one_apart x l all.1 n f k (omega arith) is

both : (a b : Bool) → T a → T b → T (a && b)
both true b p q = q
both false b p q = absurd p

below_rest : (x : Bytes) (es : List (Bytes × ℕ)) → ((j : ℕ) → j < length es → text_cmp x (get_or es j ([], 0)).0 ≡ Less)
    → T (below_all text_cmp x es)
below_rest x [] above = tt
below_rest x (e ∷ es) above = both _ _ (subst (λ o. T (is_lt o)) (sym (above 0 (omega arith))) tt)
    (below_rest x es (λ j lt. above (suc j) (omega arith)))

texts_rise : (es : List (Bytes × ℕ)) → ((i j : ℕ) → i < j → j < length es
    → text_cmp (get_or es i ([], 0)).0 (get_or es j ([], 0)).0 ≡ Less) → T (is_sorted text_cmp es)
texts_rise [] rising = tt
texts_rise (e ∷ es) rising = both _ _ (below_rest e.0 es (λ j lt. rising 0 (suc j) (omega arith) (omega arith)))
    (texts_rise es (λ i j lt in_range. rising (suc i) (suc j) (omega arith) (omega arith)))

under_at : (names : Names) (l : Pairs) (i : ℕ) → i < length l → (get_or (under_names names l) i ([], 0)).0
    ≡ get_or names (key_at l i) []
under_at names [] i lt = absurd (omega arith)
under_at names (e ∷ l) zero lt = refl
under_at names (e ∷ l) (suc i) lt = under_at names l i (omega arith)

abbrev pub behind : List (ℕ × ℕ × ℕ) → Pairs
behind r = map (λ e. (e.1, e.2)) r

length_behind : (r : List (ℕ × ℕ × ℕ)) → length (behind r) ≡ length r
length_behind [] = refl
length_behind (e ∷ r) = ap suc (length_behind r)

length_names : (names : Names) (l : Pairs) → length (under_names names l) ≡ length l
length_names names [] = refl
length_names names (e ∷ l) = ap suc (length_names names l)

key_behind : (r : List (ℕ × ℕ × ℕ)) (i : ℕ) → i < length r → key_at (behind r) i ≡ (get_or r i (0, 0, 0)).1
key_behind [] i lt = absurd (omega arith)
key_behind (e ∷ r) zero lt = refl
key_behind (e ∷ r) (suc i) lt = key_behind r i (omega arith)

module _ (names : Names) (are : AreNames names) (ranks : List ℕ) (order : AreRanks names ranks) (l : Pairs)
    (postings : ArePostings names l) (r : List (ℕ × ℕ × ℕ)) where
  abbrev pub ranked : Pairs → List (ℕ × ℕ × ℕ)
  ranked es = map (λ p. (slice_index ranks p.0, p.0, p.1)) es

  back : (es : Pairs) → behind (ranked es) ≡ es
  back [] = refl
  back (e ∷ es) = ap (λ xs. (e.0, e.1) ∷ xs) (back es)

  -- the rank and the name of each
  abbrev IsRanked : ℕ × ℕ × ℕ → Type 0
  IsRanked e = (e.0 ≡ slice_index ranks e.1) × (e.1 < length names)

  all_ranked : (es : Pairs) → ((i : ℕ) → i < length es → key_at es i < length names) → All IsRanked (ranked es)
  all_ranked [] there k d lt = absurd (omega arith)
  all_ranked (e ∷ es) there zero d lt = (refl, there 0 (omega arith))
  all_ranked (e ∷ es) there (suc k) d lt = all_ranked es (λ i lt. there (suc i) (omega arith)) k d (omega arith)

  module _ (moved : IsPermutation (ranked l) r) where
    each : All IsRanked r
    each = All-permutation IsRanked (ranked l) r moved (all_ranked l postings.there)

    pub all_there : AreThere names r
    all_there i lt = (each i (0, 0, 0) lt).1

    perm : IsPermutation l (behind r)
    perm = subst (λ es. IsPermutation es (behind r)) (back l) (IsPermutation-map (λ e. (e.1, e.2)) (ranked l) r moved)

    distinct : IsDistinct eqb (keys (behind r))
    distinct = IsDistinct-IsPermutation eqb flips (keys l) (keys (behind r))
        (IsPermutation-map (λ p. p.0) l (behind r) perm) (keys_distinct l postings.sorted)

    there : (i : ℕ) → i < length (behind r) → key_at (behind r) i < length names
    there i lt =
        let short : i < length r = omega (arith, lt, length_behind r) in
        subst (λ n. n < length names) (sym (key_behind r i short)) (all_there i short)

    at_key : (es : Pairs) (n f : ℕ) → value_of es n ≡ Some f → Contains es (n, f)
    at_key es n f e = let place = pair_place es n f e in (
      place.0,
      place.1,
      other es place.0 (n, f) place.1
          ∙ (λ i. (place.2 i, place.3 i)),
    )
      where
        other : (es : Pairs) (k : ℕ) (d : ℕ × ℕ) → k < length es → get_or es k d ≡ get_or es k (0, 0)
        other [] k d lt = absurd (omega arith)
        other (x ∷ es) zero d lt = refl
        other (x ∷ es) (suc k) d lt = other es k d (omega arith)

    same_value : (n : ℕ) → value_of l n ≡ value_of (behind r) n
    same_value n = by (value_of l n) refl (value_of (behind r) n) refl
      where
        by : (o : Option ℕ) → value_of l n ≡ o → (p : Option ℕ) → value_of (behind r) n ≡ p → value_of l n
            ≡ value_of (behind r) n
        by (Some f) is p e =
            let found = Contains-permutation l (behind r) (n, f) perm (at_key l n f is) in
            is ∙ sym (value_listed (behind r) distinct n f found.0 found.1 found.2)
        by None is (Some f) e =
            let found = Contains-permutation (behind r) l (n, f) (IsPermutation-sym l (behind r) perm)
            (at_key (behind r) n f e) in
            value_listed l (keys_distinct l postings.sorted) n f found.0 found.1 found.2 ∙ sym e
        by None is None e = is ∙ sym e

    module _ (sorted : IsNonDecreasingBy (λ e. e.0) r) where
      rises : (i j : ℕ) → i < j → j < length (behind r) → slice_index ranks (key_at (behind r) i) < slice_index ranks
          (key_at (behind r) j)
      rises i j lt in_range =
          let short : j < length r = omega (arith, in_range, length_behind r) in
          let low : i < length r = omega (arith, short, lt) in
          let up = sorted i j (0, 0, 0) (omega arith) short in
          let one = (each i (0, 0, 0) low).0 ∙ ap (slice_index ranks) (sym (key_behind r i low)) in
          let two = (each j (0, 0, 0) short).0 ∙ ap (slice_index ranks) (sym (key_behind r j short)) in
          let apart = apart_at (behind r) distinct i j lt in_range in
          elim (cases_eq (slice_index ranks (key_at (behind r) i)) (slice_index ranks (key_at (behind r) j))) [
            | inl same ↦ absurd (apart (order.apart _ _ (there i (omega (arith, lt, in_range))) (there j in_range)
                same))
            | inr other ↦ omega (arith, up, one, two)
          ]

      length_under : length (under_names names (behind r)) ≡ length (behind r)
      length_under = length_names names (behind r)

      texts_sorted : T (is_sorted text_cmp (under_names names (behind r)))
      texts_sorted = texts_rise (under_names names (behind r)) (λ i j lt in_range.
          let short : j < length (behind r) = omega (arith, in_range, length_under) in
          ap (λ x. text_cmp x (get_or (under_names names (behind r)) j ([], 0)).0)
          (under_at names (behind r) i (omega (arith, lt, short)))
          ∙ ap (text_cmp (get_or names (key_at (behind r) i) [])) (under_at names (behind r) j short)
          ∙ order.rising _ _ (there i (omega (arith, lt, short))) (there j short) (rises i j lt short))

      pub shown : entries (named_pairs names l) ≡ under_names names (behind r)
      shown = ap entries (same_named _ _ (λ q.
          get-from_entries nat_list_cmp_total (under_names names l) q ∙ named_find names are l postings.there q
          ∙ by (number_of names q)
          ∙ sym (named_find names are (behind r) there q)
          ∙ sym (get-from_sorted text_cmp (under_names names (behind r)) q texts_sorted)))
          ∙ entries-from_sorted text_cmp (under_names names (behind r)) texts_sorted
        where
          by : (o : Option ℕ) → option_and_then (λ n. value_of l n) o ≡ option_and_then (λ n. value_of (behind r) n) o
          by None = refl
          by (Some n) = same_value n

-- ---- the first ones and the rest

pub count_shown : (names : Names) (P : Postings) (r : List (ℕ × ℕ × ℕ)) → entries P ≡ under_names names (behind r)
    → len P ≡ length r
count_shown names P r is = len-entries P ∙ ap length is ∙ length_names names (behind r) ∙ length_behind r

pub under_behind_more : (names : Names) (r : List (ℕ × ℕ × ℕ)) (i : ℕ) → i < length r
    → under_names names (behind (take (i + 1) r))
    ≡ under_names names (behind (take i r)) ++ (get_or names (get_or r i (0, 0, 0)).1 [], (get_or r i (0, 0, 0)).2)
    ∷ []
under_behind_more names r i lt = subst (λ k. under_names names (behind (take k r))
    ≡ under_names names (behind (take i r)) ++ (get_or names (get_or r i (0, 0, 0)).1 [], (get_or r i (0, 0, 0)).2)
    ∷ []) (sym (add-one i)) (by r i lt)
  where
    by : (r : List (ℕ × ℕ × ℕ)) (i : ℕ) → i < length r → under_names names (behind (take (suc i) r))
        ≡ under_names names (behind (take i r)) ++ (
          get_or names (get_or r i (0, 0, 0)).1 [],
          (get_or r i (0, 0, 0)).2,
        ) ∷ []
    by [] i lt = absurd (omega arith)
    by (e ∷ r) zero lt = refl
    by (e ∷ r) (suc i) lt = ap (λ xs. (get_or names e.1 [], e.2) ∷ xs) (by r i (omega arith))

pub under_behind_split : (names : Names) (r : List (ℕ × ℕ × ℕ)) (i : ℕ) → i < length r
    → under_names names (behind (take i r)) ++ (get_or names (get_or r i (0, 0, 0)).1 [], (get_or r i (0, 0, 0)).2)
    ∷ under_names names (behind (drop (suc i) r)) ≡ under_names names (behind r)
under_behind_split names [] i lt = absurd (omega arith)
under_behind_split names (e ∷ r) zero lt = refl
under_behind_split names (e ∷ r) (suc i) lt = ap (λ xs. (get_or names e.1 [], e.2) ∷ xs)
    (under_behind_split names r i (omega arith))

pub under_behind_rest : (names : Names) (r : List (ℕ × ℕ × ℕ)) (i : ℕ) → i < length r
    → under_names names (behind (drop i r)) ≡ (get_or names (get_or r i (0, 0, 0)).1 [], (get_or r i (0, 0, 0)).2)
    ∷ under_names names (behind (drop (i + 1) r))
under_behind_rest names r i lt = subst (λ k. under_names names (behind (drop i r))
    ≡ (get_or names (get_or r i (0, 0, 0)).1 [], (get_or r i (0, 0, 0)).2) ∷ under_names names (behind (drop k r)))
    (sym (add-one i)) (by r i lt)
  where
    by : (r : List (ℕ × ℕ × ℕ)) (i : ℕ) → i < length r → under_names names (behind (drop i r))
        ≡ (get_or names (get_or r i (0, 0, 0)).1 [], (get_or r i (0, 0, 0)).2)
        ∷ under_names names (behind (drop (suc i) r))
    by [] i lt = absurd (omega arith)
    by (e ∷ r) zero lt = refl
    by (e ∷ r) (suc i) lt = by r i (omega arith)
