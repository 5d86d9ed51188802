-- The ranks of names, from the map of their numbers.
use Rattle.std.proofs.Common.{◌≡◌, ◌≢◌, inl, inr, ℕ, zero, suc, ◌<◌, Bool, true, false, cond, List, [], ◌∷◌, ◌++◌}
use Rattle.std.proofs.Common.{length, get_or, slice_index, Option, Some, None, option_map, is_eq, refl, sym, ap, subst}
use Rattle.std.proofs.Common.{◌∙◌, arith, Less, Equal, Greater, String, Global, string_cmp, BTreeMap, set}
use Rattle.std.proofs.Common.{length-append}
use mathlib.Core.Bool.{false≢true}
use Rattle.std.specs.Prelude.{T, ◌&&◌}
use Rattle.std.specs.Ordering.{nat_cmp, eq_by_cmp, is_lt}
use Rattle.std.specs.Cmp.Lexicographic.{slice_cmp}
use Rattle.std.specs.List.Sorted.{IsStrictlySortedBy}
use Rattle.std.specs.Map.{keys_of}
use Rattle.std.specs.BTreeMap.{get_by_text}
use Rattle.std.specs.declared.cmp.Ordering.{Ordering}
use Rattle.std.specs.FinMap as finite
use Rattle.std.specs.FinMap.Entries.{is_sorted, below_all}
use Rattle.std.proofs.lemmas.Bool.{cases_eq, cases_lt}
use Rattle.std.proofs.lemmas.Cmp.{nat_list_cmp_total}
use Rattle.elasticlunr_error.specs.Text.{Bytes, text_cmp}
use Rattle.elasticlunr_json.specs.Maps.{seen}
use Rattle.elasticlunr_trie_nodes.specs.Names.{Names, Numbers, AreNames, AreRanks, HasRanks, HasNumbersBelow}
use Rattle.elasticlunr_trie_nodes.specs.Names.{HasDistinctNumbers, number_at, number_of}
use Rattle.elasticlunr_json.proofs.Sorted.{shown, entries_seen}
use Rattle.elasticlunr_json.proofs.Seen.{get_seen}
use Rattle.elasticlunr_json.proofs.Texts.{text_tie, text_tied, no_tie}
use Rattle.elasticlunr_trie_nodes.proofs.Added.{number-below}
use Rattle.elasticlunr_trie_nodes.proofs.Removed.{one_name}
use Rattle.elasticlunr_trie_nodes.proofs.Named.{name_number}

abbrev Entries : Type 0
Entries = List (Bytes × ℕ)

abbrev entry : Entries → ℕ → Bytes × ℕ
entry es i = get_or es i ([], 0)

pub first_of : (a b : Bool) → T (a && b) → T a
first_of true b h = tt
first_of false b h = absurd h

pub second_of : (a b : Bool) → T (a && b) → T b
second_of true b h = h
second_of false b h = absurd h

less_of : (o : Ordering) → T (is_lt o) → o ≡ Less
less_of Less h = refl
less_of Equal h = absurd h
less_of Greater h = absurd h

pub below_at : (x : Bytes) (es : Entries) → T (below_all text_cmp x es) → (j : ℕ) → j < length es
    → text_cmp x (entry es j).0 ≡ Less
below_at x [] h j lt = absurd (omega arith)
below_at x (e ∷ es) h zero lt = less_of _ (first_of _ _ h)
below_at x (e ∷ es) h (suc j) lt = below_at x es (second_of _ _ h) j (omega arith)

rise_at : (es : Entries) → T (is_sorted text_cmp es) → (i j : ℕ) → i < j → j < length es
    → text_cmp (entry es i).0 (entry es j).0 ≡ Less
rise_at [] h i j lt in_range = absurd (omega arith)
rise_at (e ∷ es) h zero zero lt in_range = absurd (omega arith)
rise_at (e ∷ es) h zero (suc j) lt in_range = below_at e.0 es (first_of _ _ h) j (omega arith)
rise_at (e ∷ es) h (suc i) zero lt in_range = absurd (omega arith)
rise_at (e ∷ es) h (suc i) (suc j) lt in_range = rise_at es (second_of _ _ h) i j (omega arith) (omega arith)

not_itself : (x y : Bytes) → text_cmp x y ≡ Less → y ≢ x
not_itself x y less same = false≢true (sym (ap is_eq less) ∙ ap (eq_by_cmp (slice_cmp nat_cmp) x) same ∙ text_tied x)

found_at : (es : Entries) → T (is_sorted text_cmp es) → (i : ℕ) → i < length es → finite.find text_cmp (entry es i).0 es
    ≡ Some (entry es i).1
found_at [] h i lt = absurd (omega arith)
found_at (e ∷ es) h zero lt = ap (λ b. cond b (Some e.1) (finite.find text_cmp e.0 es)) (text_tied e.0)
found_at (e ∷ es) h (suc i) lt =
    let apart = not_itself e.0 (entry es i).0 (below_at e.0 es (first_of _ _ h) i (omega arith)) in
    ap (λ b. cond b (Some e.1) (finite.find text_cmp (entry es i).0 es)) (no_tie (entry es i).0 e.0 apart)
    ∙ found_at es (second_of _ _ h) i (omega arith)

place_of : (es : Entries) (q : Bytes) (n : ℕ) → finite.find text_cmp q es ≡ Some n → (i : ℕ) × (i < length es)
    × ((entry es i).0 ≡ q) × ((entry es i).1 ≡ n)
place_of [] q n e = absurd (cc)
place_of (x ∷ es) q n e = by (eq_by_cmp (slice_cmp nat_cmp) q x.0) refl (place_of es q n)
  where
    by : (b : Bool) → eq_by_cmp (slice_cmp nat_cmp) q x.0 ≡ b
        → (finite.find text_cmp q es ≡ Some n → (i : ℕ) × (i < length es) × ((entry es i).0 ≡ q)
        × ((entry es i).1 ≡ n))
        → (i : ℕ) × (i < length (x ∷ es)) × ((entry (x ∷ es) i).0 ≡ q) × ((entry (x ∷ es) i).1 ≡ n)
    by true tie rest =
        let value : Some x.1 ≡ Some n = sym (ap (λ b. cond b (Some x.1) (finite.find text_cmp q es)) tie) ∙ e in
        (0, omega arith, sym (text_tie q x.0 tie), (cc))
    by false apart rest =
        let later = rest (sym (ap (λ b. cond b (Some x.1) (finite.find text_cmp q es)) apart) ∙ e) in
        (suc later.0, omega (arith, later.1), later.2, later.3)

itself : (o : Option ℕ) → option_map (λ n. n) o ≡ o
itself None = refl
itself (Some n) = refl

number_shown : (es : Numbers) (i : ℕ) → i < length es → number_at es i ≡ (entry (shown (λ n. n) es) i).1
number_shown [] i lt = absurd (omega arith)
number_shown (e ∷ es) zero lt = refl
number_shown (e ∷ es) (suc i) lt = number_shown es i (omega arith)

length_shown : (es : Numbers) → length (shown (λ n. n) es) ≡ length es
length_shown [] = refl
length_shown (e ∷ es) = ap suc (length_shown es)

module _ (m : BTreeMap (String Global) ℕ) (names : Names) (held : (r : Bytes) → get_by_text m r ≡ number_of names r)
    (ordered : IsStrictlySortedBy string_cmp (keys_of m.entries)) where
  abbrev U : Entries
  U = shown (λ n. n) m.entries

  rising : T (is_sorted text_cmp U)
  rising = subst (λ es. T (is_sorted text_cmp es)) (entries_seen (λ n. n) m.entries ordered)
      (finite.entries_sorted (seen (λ n. n) m.entries))

  find_number : (q : Bytes) → finite.find text_cmp q U ≡ number_of names q
  find_number q = sym (finite.get-from_entries nat_list_cmp_total U q) ∙ get_seen (λ n. n) m q
      ∙ itself (get_by_text m q) ∙ held q

  entry_number : (i : ℕ) → i < length m.entries → number_of names (entry U i).0 ≡ Some (number_at m.entries i)
  entry_number i lt = sym (find_number (entry U i).0) ∙ found_at U rising i (omega (arith, lt, length_shown m.entries))
      ∙ ap Some (sym (number_shown m.entries i lt))

  pub numbers_below : HasNumbersBelow m.entries (length names)
  numbers_below i lt = number-below names (entry U i).0 (number_at m.entries i) (entry_number i lt)

  same_entry : (i j : ℕ) → i < length m.entries → j < length m.entries → (entry U i).0 ≡ (entry U j).0 → i ≡ j
  same_entry i j lt lt2 same = elim (cases_eq i j) [
    | inl is ↦ is
    | inr apart ↦ elim (cases_lt i j) [
      | inl up ↦ absurd (not_itself _ _ (rise_at U rising i j up (omega (arith, lt2, length_shown m.entries)))
          (sym same))
      | inr down ↦ absurd (not_itself _ _ (rise_at U rising j i (omega arith)
          (omega (arith, lt, length_shown m.entries))) same)
    ]
  ]

  pub numbers_differ : HasDistinctNumbers m.entries
  numbers_differ i j lt lt2 same = same_entry i j lt lt2 (one_name names _ _ (number_at m.entries i) (entry_number i lt)
      (entry_number j lt2 ∙ ap Some (sym same)))

  module _ (are : AreNames names) (ranks : List ℕ) (count : length ranks ≡ length names)
      (has : HasRanks m.entries ranks (length m.entries)) where
    -- the entry of a number
    number_entry : (n : ℕ) → n < length names → (i : ℕ) × (i < length m.entries) × ((entry U i).0 ≡ get_or names n [])
        × (slice_index ranks n ≡ i)
    number_entry n lt =
        let place = place_of U (get_or names n []) n (find_number (get_or names n []) ∙ name_number names are n lt) in
        let short : place.0 < length m.entries = omega (arith, place.1, length_shown m.entries) in (
          place.0,
          short,
          place.2,
          ap (slice_index ranks) (sym (number_shown m.entries place.0 short ∙ place.3))
              ∙ has place.0 short,
        )

    pub names_ranked : AreRanks names ranks
    names_ranked = record {
      count = count;
      apart = λ k n lt lt2 same.
          let one = number_entry k lt in
          let two = number_entry n lt2 in
          let place : one.0 ≡ two.0 = sym one.3 ∙ same ∙ two.3 in
          let name = sym one.2 ∙ ap (λ i. (entry U i).0) place ∙ two.2 in
          let both : Some k ≡ Some n = sym (name_number names are k lt) ∙ ap (number_of names) name
          ∙ name_number names are n lt2 in
          cc;
      rising = λ k n lt lt2 less.
          let one = number_entry k lt in
          let two = number_entry n lt2 in
          let up : one.0 < two.0 = omega (arith, one.3, two.3, less) in
          ap (λ x. text_cmp x (get_or names n [])) (sym one.2) ∙ ap (text_cmp (entry U one.0).0) (sym two.2)
          ∙ rise_at U rising one.0 two.0 up (omega (arith, two.1, length_shown m.entries));
    }

-- ---- one more rank

pub number_middle : (done : Numbers) (e : String Global × ℕ) (more : Numbers)
    → number_at (done ++ e ∷ more) (length done) ≡ e.1
number_middle [] e more = refl
number_middle (d ∷ done) e more = number_middle done e more

pub index_set : (xs : List ℕ) (n v : ℕ) → n < length xs → slice_index (set xs n v) n ≡ v
index_set [] n v lt = absurd (omega arith)
index_set (x ∷ xs) zero v lt = refl
index_set (x ∷ xs) (suc n) v lt = index_set xs n v (omega arith)

pub index_other : (xs : List ℕ) (n v m : ℕ) → m ≢ n → slice_index (set xs n v) m ≡ slice_index xs m
index_other [] n v m apart = refl
index_other (x ∷ xs) zero v zero apart = absurd (apart refl)
index_other (x ∷ xs) zero v (suc m) apart = refl
index_other (x ∷ xs) (suc n) v zero apart = refl
index_other (x ∷ xs) (suc n) v (suc m) apart = index_other xs n v m (λ e. apart (ap suc e))

pub one_more_rank : (es : Numbers) (ranks : List ℕ) (done : Numbers) (e : String Global × ℕ) (more : Numbers)
    → done ++ e ∷ more ≡ es → HasNumbersBelow es (length ranks) → HasDistinctNumbers es
    → HasRanks es ranks (length done) → HasRanks es (set ranks e.1 (length done)) (length (done ++ e ∷ []))
one_more_rank es ranks done e more split in_range apart has i lt =
    let here : number_at es (length done) ≡ e.1 = ap (λ xs. number_at xs (length done)) (sym split)
    ∙ number_middle done e more in
    let last : length done < length es = omega (arith, ap length split, length-append done (e ∷ more)) in
    elim (cases_eq i (length done)) [
      | inl same ↦ subst (λ k. slice_index (set ranks e.1 (length done)) (number_at es k) ≡ k) (sym same)
          (ap (slice_index (set ranks e.1 (length done))) here
          ∙ index_set ranks e.1 (length done) (subst (λ n. n < length ranks) here (in_range (length done) last)))
      | inr other ↦
          let low : i < length done = omega (arith, lt, length-append done (e ∷ [])) in
          index_other ranks e.1 (length done) (number_at es i)
          (λ is. other (apart i (length done) (omega arith) last (is ∙ sym here))) ∙ has i low
    ]
