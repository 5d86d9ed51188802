-- Postings that are sorted by their names are the entries of their map.
use Rattle.std.proofs.Common.{◌≡◌, ◌≢◌, inl, inr, ℕ, zero, suc, ◌<◌, Bool, true, false, cond, List, [], ◌∷◌, ◌++◌}
use Rattle.std.proofs.Common.{length, map, get_or, Option, Some, None, refl, sym, ap, subst, ◌∙◌, arith, add-one}
use Rattle.std.proofs.Common.{bytes_eq, Less, Equal, Greater}
use mathlib.Core.Bool.{false≢true}
use Rattle.std.specs.Prelude.{T, ◌&&◌}
use Rattle.std.specs.Borrow.{Bor}
use Rattle.std.specs.List.{AllByRecursion, Contains, IsDistinct}
use Rattle.std.specs.List.Sorted.{IsPermutation, IsSorted}
use Rattle.std.specs.Ordering.{nat_cmp, is_lt, is_eq, eq_by_cmp, ordering_then, ordering_reverse}
use Rattle.std.specs.declared.cmp.Ordering.{Ordering}
use Rattle.std.specs.FinMap.{entries, entries-from_sorted, find, from_entries, get-from_entries, get-from_sorted}
use Rattle.std.specs.FinMap.Entries.{is_sorted, below_all}
use Rattle.std.proofs.lemmas.Cmp.{nat_list_cmp_total}
use Rattle.std.proofs.lemmas.List.{map-append}
use Rattle.std.proofs.lemmas.List.Sorted.{IsPermutation-map, IsPermutation-sym, Contains-permutation}
use Rattle.std.proofs.lemmas.Map.Keys.{IsDistinct-IsPermutation}
use Rattle.std.proofs.lemmas.Slice.Eq.{bytes_eq-Decides}
use Rattle.elasticlunr_error.specs.Text.{Bytes, text_cmp}
use Rattle.elasticlunr_json.proofs.Texts.{text_tie, text_tied, no_tie}
use Rattle.elasticlunr_trie_nodes.specs.Names.{Names, AreNames, ArePostings, named_pairs, number_of, under_names}
use Rattle.elasticlunr_trie_nodes.specs.Pairs.{Pairs, key_at, IsStrictlySorted}
use Rattle.elasticlunr_trie_nodes.proofs.Named.{name_number}
use Rattle.elasticlunr_trie_nodes.proofs.Settled.{same_named}
use Rattle.elasticlunr_trie_nodes.proofs.Tables.{In}
use Rattle.elasticlunr_trie.specs.Tokens.{told_postings}

-- one posting more
pub told_behind : (ps : List (Bor Bytes × ℕ)) (p : Bor Bytes × ℕ) → told_postings (ps ++ p ∷ [])
    ≡ told_postings ps ++ (p.0.now, p.1) ∷ []
told_behind ps p = map-append (λ x. (x.0.now, x.1)) ps (p ∷ [])

-- ---- members of a list

contains_from : {A : Type 0} (xs : List A) (x : A) → In x xs → Contains xs x
contains_from [] x h = elim h [ ]
contains_from (y ∷ xs) x (inl e) = (0, omega arith, sym e)
contains_from (y ∷ xs) x (inr h) = let later = contains_from xs x h in (suc later.0, omega (arith, later.1), later.2)

contains_to : {A : Type 0} (xs : List A) (x : A) (k : ℕ) → k < length xs → get_or xs k x ≡ x → In x xs
contains_to [] x k lt is = absurd (omega arith)
contains_to (y ∷ xs) x zero lt is = inl (sym is)
contains_to (y ∷ xs) x (suc k) lt is = inr (contains_to xs x k (omega arith) is)

-- ---- what is found in entries whose keys differ

abbrev keys : List (Bytes × ℕ) → List Bytes
keys es = map (λ e. e.0) es

apart_from : (x : Bytes) (es : List (Bytes × ℕ)) → AllByRecursion (λ y. bytes_eq x y ≡ false) (keys es)
    → (q : Bytes) (n : ℕ) → In (q, n) es → x ≡ q → ⊥
apart_from x [] all q n h same = elim h [ ]
apart_from x (e ∷ es) all q n (inl is) same =
    false≢true (sym all.0 ∙ (bytes_eq-Decides x e.0).1 (same ∙ ap (λ (p : Bytes × ℕ). p.0) is))
apart_from x (e ∷ es) all q n (inr h) same = apart_from x es all.1 q n h same

find_in : (es : List (Bytes × ℕ)) → IsDistinct bytes_eq (keys es) → (q : Bytes) (n : ℕ) → In (q, n) es
    → find text_cmp q es ≡ Some n
unfolding IsDistinct
find_in [] distinct q n h = elim h [ ]
find_in (e ∷ es) distinct q n (inl is) =
    let tie : eq_by_cmp text_cmp q e.0 ≡ true = ap (eq_by_cmp text_cmp q) (sym (ap (λ (p : Bytes × ℕ). p.0) is))
    ∙ text_tied q in
    ap (λ b. cond b (Some e.1) (find text_cmp q es)) tie ∙ ap Some (sym (ap (λ (p : Bytes × ℕ). p.1) is))
find_in (e ∷ es) distinct q n (inr h) =
    let none : eq_by_cmp text_cmp q e.0 ≡ false = no_tie q e.0 (λ same. apart_from e.0 es distinct.0 q n h (sym same))
    in
    ap (λ b. cond b (Some e.1) (find text_cmp q es)) none ∙ find_in es distinct.1 q n h

in_find : (es : List (Bytes × ℕ)) (q : Bytes) (n : ℕ) → find text_cmp q es ≡ Some n → In (q, n) es
in_find [] q n is = absurd (cc)
in_find (e ∷ es) q n is = by (eq_by_cmp text_cmp q e.0) refl (in_find es q n) is
  where
    by : (b : Bool) → eq_by_cmp text_cmp q e.0 ≡ b → (find text_cmp q es ≡ Some n → In (q, n) es)
        → cond b (Some e.1) (find text_cmp q es) ≡ Some n → In (q, n) (e ∷ es)
    by true tie later h = let value : e.1 ≡ n = cc in inl (λ i. (text_tie q e.0 tie i, sym value i))
    by false tie later h = inr (later h)

module _ (es fs : List (Bytes × ℕ)) (moved : IsPermutation es fs) (distinct : IsDistinct bytes_eq (keys es)) where
  flips : (x y : Bytes) → bytes_eq x y ≡ bytes_eq y x
  flips x y = by (bytes_eq x y) (bytes_eq y x) refl refl
    where
      by : (a b : Bool) → bytes_eq x y ≡ a → bytes_eq y x ≡ b → bytes_eq x y ≡ bytes_eq y x
      by true true e f = e ∙ sym f
      by false false e f = e ∙ sym f
      by true false e f = absurd (false≢true (sym f ∙ (bytes_eq-Decides y x).1 (sym ((bytes_eq-Decides x y).0 e))))
      by false true e f = absurd (false≢true (sym e ∙ (bytes_eq-Decides x y).1 (sym ((bytes_eq-Decides y x).0 f))))

  moved_distinct : IsDistinct bytes_eq (keys fs)
  moved_distinct = IsDistinct-IsPermutation bytes_eq flips (keys es) (keys fs)
      (IsPermutation-map (λ e. e.0) es fs moved) distinct

  moved_in : (xs ys : List (Bytes × ℕ)) → IsPermutation xs ys → (e : Bytes × ℕ) → In e xs → In e ys
  moved_in xs ys is e h = let at = Contains-permutation xs ys e is (contains_from xs e h) in contains_to ys e at.0 at.1
      at.2

  -- the order makes no difference
  same_find : (q : Bytes) → find text_cmp q es ≡ find text_cmp q fs
  same_find q = by (find text_cmp q es) (find text_cmp q fs) refl refl
    where
      by : (o p : Option ℕ) → find text_cmp q es ≡ o → find text_cmp q fs ≡ p → find text_cmp q es ≡ find text_cmp q fs
      by (Some n) p is e = is ∙ sym (find_in fs moved_distinct q n (moved_in es fs moved (q, n) (in_find es q n is)))
      by None (Some n) is e = find_in es distinct q n
          (moved_in fs es (IsPermutation-sym es fs moved) (q, n) (in_find fs q n e)) ∙ sym e
      by None None is e = is ∙ sym e

  pub sorted_entries : T (is_sorted text_cmp fs) → entries (from_entries {R = text_cmp} es) ≡ fs
  sorted_entries rises =
      ap entries (same_named _ _ (λ q. get-from_entries nat_list_cmp_total es q ∙ same_find q
      ∙ sym (get-from_sorted text_cmp fs q rises)))
      ∙ entries-from_sorted text_cmp fs rises

-- ---- the order of names, and then of frequencies

abbrev pub by_name : Bor Bytes × ℕ → Bor Bytes × ℕ → Ordering
by_name x y = ordering_then (text_cmp x.0.now y.0.now) (nat_cmp x.1 y.1)

both : (a b : Bool) → T a → T b → T (a && b)
both true b p q = q
both false b p q = absurd p

less_than : (x y : Bytes) → text_cmp x y ≡ Less → T (is_lt (text_cmp x y))
less_than x y h = subst (λ o. T (is_lt o)) (sym h) tt

is_less : (x y : Bytes) → T (is_lt (text_cmp x y)) → text_cmp x y ≡ Less
is_less x y h = by (text_cmp x y) refl h
  where
    by : (o : Ordering) → text_cmp x y ≡ o → T (is_lt o) → text_cmp x y ≡ Less
    by Less is h = is
    by Equal is h = absurd h
    by Greater is h = absurd h

first_of : (a b : Bool) → T (a && b) → T a
first_of true b h = tt
first_of false b h = absurd h

second_of : (a b : Bool) → T (a && b) → T b
second_of true b h = h
second_of false b h = absurd h

below_more : (x y : Bytes) (es : List (Bytes × ℕ)) → text_cmp x y ≡ Less → T (below_all text_cmp y es)
    → T (below_all text_cmp x es)
below_more x y [] less h = tt
below_more x y (e ∷ es) less h = both _ _
    (less_than x e.0 (nat_list_cmp_total.trans x y e.0 less (is_less y e.0 (first_of _ _ h))))
    (below_more x y es less (second_of _ _ h))

-- names that differ and do not fall rise
rise_once : (x y : Bor Bytes × ℕ) → bytes_eq x.0.now y.0.now ≡ false → is_lt (by_name y x) ≡ false
    → text_cmp x.0.now y.0.now ≡ Less
rise_once x y apart kept = by (text_cmp y.0.now x.0.now) refl
  where
    by : (o : Ordering) → text_cmp y.0.now x.0.now ≡ o → text_cmp x.0.now y.0.now ≡ Less
    by Less is = absurd (false≢true (sym kept ∙ ap (λ o. is_lt (ordering_then o (nat_cmp y.1 x.1))) is))
    by Equal is = absurd (false≢true (sym apart
        ∙ (bytes_eq-Decides x.0.now y.0.now).1 (sym (text_tie y.0.now x.0.now (ap is_eq is)))))
    by Greater is = nat_list_cmp_total.antisymm x.0.now y.0.now ∙ ap ordering_reverse is

rise_all : (ps : List (Bor Bytes × ℕ)) → IsDistinct bytes_eq (keys (told_postings ps))
    → ((k : ℕ) (d : Bor Bytes × ℕ) → suc k < length ps → is_lt (by_name (get_or ps (suc k) d) (get_or ps k d))
    ≡ false) → T (is_sorted text_cmp (told_postings ps))
unfolding IsDistinct
rise_all [] distinct kept = tt
rise_all (p ∷ []) distinct kept = tt
rise_all (p ∷ q ∷ ps) distinct kept =
    let less = rise_once p q distinct.0.0 (kept 0 p (omega arith)) in
    let later = rise_all (q ∷ ps) distinct.1 (λ k d lt. kept (suc k) d (omega (arith, lt))) in
    both _ _ (both _ _ (less_than p.0.now q.0.now less)
    (below_more p.0.now q.0.now (told_postings ps) less (first_of _ _ later))) later

-- ---- the names of postings differ

module _ (names : Names) (are : AreNames names) where
  names_apart : (m n : ℕ) → m < length names → n < length names → m ≢ n
      → bytes_eq (get_or names m []) (get_or names n []) ≡ false
  names_apart m n low high apart = by (bytes_eq (get_or names m []) (get_or names n [])) refl
    where
      by : (b : Bool) → bytes_eq (get_or names m []) (get_or names n []) ≡ b
          → bytes_eq (get_or names m []) (get_or names n []) ≡ false
      by false is = is
      by true is =
          let same : get_or names m [] ≡ get_or names n [] =
          (bytes_eq-Decides (get_or names m []) (get_or names n [])).0 is in
          let numbers : Some m ≡ Some n = sym (name_number names are m low) ∙ ap (λ x. number_of names x) same
          ∙ name_number names are n high in
          absurd (apart (cc))

  apart_all : (m : ℕ) → m < length names → (l : Pairs) → ((j : ℕ) → j < length l → key_at l j < length names)
      → ((j : ℕ) → j < length l → m < key_at l j) → AllByRecursion (λ y. bytes_eq (get_or names m []) y ≡ false)
      (keys (under_names names l))
  apart_all m low [] there above = tt
  apart_all m low (e ∷ l) there above = (
    names_apart m e.0 low (there 0 (omega arith)) (λ same. let up = above 0 (omega arith) in omega (arith, same, up)),
    apart_all m low l (λ j lt. there (suc j) (omega (arith, lt))) (λ j lt. above (suc j) (omega (arith, lt))),
  )

  names_distinct : (l : Pairs) → IsStrictlySorted l → ((j : ℕ) → j < length l → key_at l j < length names)
      → IsDistinct bytes_eq (keys (under_names names l))
  unfolding IsDistinct
  names_distinct [] sorted there = tt
  names_distinct (e ∷ l) sorted there = (
    apart_all e.0 (there 0 (omega arith)) l (λ j lt. there (suc j) (omega (arith, lt)))
        (λ j lt. sorted 0 (suc j) (omega arith) (omega (arith, lt))),
    names_distinct l (λ i j lt high. sorted (suc i) (suc j) (omega (arith, lt)) (omega (arith, high)))
        (λ j lt. there (suc j) (omega (arith, lt))),
  )

  -- the postings of names, sorted
  pub in_name_order : (l : Pairs) → ArePostings names l → (old new : List (Bor Bytes × ℕ)) → told_postings old
      ≡ under_names names l → IsPermutation old new → IsSorted by_name new → told_postings new
      ≡ entries (named_pairs names l)
  in_name_order l postings old new are_told moved sorted =
      let told : IsPermutation (under_names names l) (told_postings new) =
      subst (λ es. IsPermutation es (told_postings new)) are_told
      (IsPermutation-map (λ p. (p.0.now, p.1)) old new moved) in
      let distinct = names_distinct l postings.sorted postings.there in
      sym (sorted_entries (under_names names l) (told_postings new) told distinct
      (rise_all new (moved_distinct (under_names names l) (told_postings new) told distinct)
      (λ k d lt. subst (λ j. is_lt (by_name (get_or new j d) (get_or new k d)) ≡ false) (add-one k)
      (sorted k d (omega arith) (omega (arith, lt))))))
