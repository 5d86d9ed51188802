-- Postings under the names of their numbers.
use Rattle.std.proofs.Common.{◌≡◌, inl, inr, ℕ, zero, suc, take, ◌++◌, Equal, Greater, ◌+◌, ◌<◌, ◌≤◌, Bool, true, false}
use Rattle.std.proofs.Common.{cond, is_some, [], ◌∷◌, length, get_or, Option, Some, None, option_and_then, slice_get}
use Rattle.std.proofs.Common.{refl, sym, ap, subst, ◌∙◌, arith, eqb, ne_eqb, add-one}
use Rattle.std.specs.Ordering.{nat_cmp, eq_by_cmp}
use Rattle.std.specs.Cmp.Lexicographic.{slice_cmp}
use Rattle.std.specs.FinMap.{get, find, len, entries, empty, contains_key, from_entries, get-empty, len-empty}
use Rattle.std.specs.FinMap.{get-from_entries, len-insert, len-entries, entries_sorted, get-entries}
use Rattle.std.proofs.lemmas.Cmp.{nat_list_cmp_total}
use Rattle.std.proofs.lemmas.Bool.{cases_eq, cases_lt, eq-eqb}
use Rattle.std.specs.Prelude.{T, ◌&&◌}
use Rattle.std.specs.Ordering.{is_lt}
use Rattle.std.specs.Cmp.{nat_cmp_is}
use Rattle.std.specs.FinMap.Entries.{is_sorted, below_all}
use Rattle.std.proofs.lemmas.List.{take_more}
use Rattle.elasticlunr_trie_nodes.proofs.Gap.{value_at_place}
use Rattle.std.proofs.lemmas.List.{nil_from_length}
use Rattle.elasticlunr_error.specs.Text.{Bytes, text_cmp}
use Rattle.elasticlunr_trie_nodes.specs.Table.{Postings}
use Rattle.elasticlunr_trie_nodes.specs.Pairs.{Pairs, value_of, key_at, IsStrictlySorted}
use Rattle.elasticlunr_trie_nodes.specs.Frequencies.{Frequencies}
use Rattle.elasticlunr_trie_nodes.specs.Names.{Names, AreNames, AreNumbered, ArePostings, Extends, at, named_pairs}
use Rattle.elasticlunr_trie_nodes.specs.Names.{number_of, under_names}
use Rattle.elasticlunr_trie_nodes.specs.Trie.{named}
use Rattle.elasticlunr_trie_nodes.proofs.Found.{value_absent}
use Rattle.elasticlunr_trie_nodes.proofs.Frequencies.{find_value}
use Rattle.elasticlunr_trie_nodes.proofs.Places.{get_there}
use Rattle.elasticlunr_trie_nodes.proofs.Removed.{number-name}
use Rattle.elasticlunr_trie_nodes.proofs.Tables.{get_named}
use Rattle.elasticlunr_json.proofs.Texts.{text_tied, no_tie}
use Rattle.elasticlunr_trie_nodes.proofs.Settled.{same_named}

pub no_names : (names : Names) → named names empty ≡ empty
no_names names = same_named _ _ (λ r. get_named names empty r ∙ by r (number_of names r) ∙ sym (get-empty text_cmp r))
  where
    by : (r : Bytes) (o : Option ℕ) → option_and_then {U = ℕ} (λ n. get (empty {X = ℕ} {R = nat_cmp}) n) o ≡ None
    by r None = refl
    by r (Some n) = get-empty nat_cmp n

pub no_df : (names : Names) → len (named names empty) ≡ 0
no_df names = ap len (no_names names) ∙ len-empty text_cmp ℕ

pub no_entries : (names : Names) → entries (named names empty) ≡ []
no_entries names = nil_from_length _ (sym (len-entries (named names empty)) ∙ no_df names)

-- the number of a posting
pub number_there : (names : Names) (r : Bytes) (P : Frequencies) (f : ℕ) → at names r P ≡ Some f → (n : ℕ)
    × (number_of names r ≡ Some n) × (get P n ≡ Some f)
number_there names r P f = by (number_of names r) refl
  where
    by : (o : Option ℕ) → number_of names r ≡ o → option_and_then (λ n. get P n) o ≡ Some f → (n : ℕ)
        × (number_of names r ≡ Some n) × (get P n ≡ Some f)
    by None is e = absurd (cc)
    by (Some n) is e = (n, is, e)

module _ (names : Names) (are : AreNames names) where
  -- the name of a number
  pub name_there : (n : ℕ) → n < length names → slice_get names n ≡ Some (get_or names n [])
  name_there n lt = get_there names n [] lt

  pub name_number : (n : ℕ) → n < length names → number_of names (get_or names n []) ≡ Some n
  name_number n lt = are.distinct n (get_or names n []) (name_there n lt)

  -- a posting under its name
  pub at_name : (P : Frequencies) (n : ℕ) → n < length names → at names (get_or names n []) P ≡ get P n
  at_name P n lt = ap (λ o. option_and_then (λ m. get P m) o) (name_number n lt)

  -- a reference ties the name of its number alone
  pub ties_name : (n : ℕ) → n < length names → (r : Bytes) (m : ℕ) → number_of names r ≡ Some m
      → eq_by_cmp (slice_cmp nat_cmp) r (get_or names n []) ≡ eqb n m
  ties_name n lt r m numbered = elim (cases_eq n m) [
    | inl same ↦
        let both : Some (get_or names n []) ≡ Some r = sym (name_there n lt) ∙ ap (slice_get names) same
        ∙ number-name names r m numbered in
        let is : get_or names n [] ≡ r = cc in
        ap (eq_by_cmp (slice_cmp nat_cmp) r) is ∙ text_tied r ∙ sym (eq-eqb n m same)
    | inr apart ↦
        no_tie r (get_or names n []) (λ e. apart (let both : Some n ≡ Some m = sym (name_number n lt)
        ∙ ap (number_of names) (sym e) ∙ numbered in cc)) ∙ sym (ne_eqb n m apart)
  ]

  no_name_ties : (n : ℕ) → n < length names → (r : Bytes) → number_of names r ≡ None
      → eq_by_cmp (slice_cmp nat_cmp) r (get_or names n []) ≡ false
  no_name_ties n lt r none = no_tie r (get_or names n []) (λ e. let both : Some n ≡ None = sym (name_number n lt)
      ∙ ap (number_of names) (sym e) ∙ none in cc)

  -- what is found under names
  pub named_find : (l : Pairs) → ((i : ℕ) → i < length l → key_at l i < length names) → (r : Bytes)
      → find text_cmp r (under_names names l) ≡ option_and_then (λ n. value_of l n) (number_of names r)
  named_find l there r = by (number_of names r) refl l there
    where
      by : (o : Option ℕ) → number_of names r ≡ o → (l : Pairs) → ((i : ℕ) → i < length l → key_at l i < length names)
          → find text_cmp r (under_names names l) ≡ option_and_then (λ n. value_of l n) o
      by None is [] there = refl
      by None is (e ∷ l) there =
          ap (λ b. cond b (Some e.1) (find text_cmp r (under_names names l)))
          (no_name_ties e.0 (there 0 (omega arith)) r is)
          ∙ by None is l (λ i lt. there (suc i) (omega arith))
      by (Some m) is [] there = refl
      by (Some m) is (e ∷ l) there =
          ap (λ b. cond b (Some e.1) (find text_cmp r (under_names names l)))
          (ties_name e.0 (there 0 (omega arith)) r m is)
          ∙ ap (λ o. cond (eqb e.0 m) (Some e.1) o) (by (Some m) is l (λ i lt. there (suc i) (omega arith)))

  -- postings, as entries under names
  pub named_value : (P : Frequencies) (r : Bytes) → at names r P
      ≡ option_and_then (λ n. value_of (entries P) n) (number_of names r)
  named_value P r = by (number_of names r)
    where
      by : (o : Option ℕ) → option_and_then (λ n. get P n) o ≡ option_and_then (λ n. value_of (entries P) n) o
      by None = refl
      by (Some n) = get-entries P n ∙ find_value (entries P) n

  pub is_named : (P : Frequencies) (l : Pairs) → ((i : ℕ) → i < length l → key_at l i < length names)
      → ((n : ℕ) → value_of l n ≡ get P n) → named names P ≡ from_entries (under_names names l)
  is_named P l there same = same_named _ _ (λ r.
      get_named names P r ∙ by (number_of names r) ∙ sym (named_find l there r)
      ∙ sym (get-from_entries nat_list_cmp_total (under_names names l) r))
    where
      by : (o : Option ℕ) → option_and_then (λ n. get P n) o ≡ option_and_then (λ n. value_of l n) o
      by None = refl
      by (Some n) = sym (same n)

  tail_sorted : (e : ℕ × ℕ) (l : Pairs) → IsStrictlySorted (e ∷ l) → IsStrictlySorted l
  tail_sorted e l sorted i j lt in_range = sorted (suc i) (suc j) (omega arith) (omega arith)

  not_below : (e : ℕ × ℕ) (l : Pairs) → IsStrictlySorted (e ∷ l) → value_of l e.0 ≡ None
  not_below e l sorted = value_absent l e.0 (λ j lt same. let up = sorted 0 (suc j) (omega arith) (omega arith) in omega
      (arith, same, up))

  len_under : (l : Pairs) → IsStrictlySorted l → ((i : ℕ) → i < length l → key_at l i < length names)
      → len (from_entries {R = text_cmp} (under_names names l)) ≡ length l
  len_under [] sorted there = len-empty text_cmp ℕ
  len_under (e ∷ l) sorted there =
      let name = get_or names e.0 [] in
      let rest = under_names names l in
      let M : Postings = from_entries rest in
      let later : (i : ℕ) → i < length l → key_at l i < length names = λ i lt. there (suc i) (omega arith) in
      let none : contains_key (from_entries {R = text_cmp} rest) name ≡ false =
      ap is_some (get-from_entries nat_list_cmp_total rest name ∙ named_find l later name
      ∙ ap (λ o. option_and_then (λ n. value_of l n) o) (name_number e.0 (there 0 (omega arith)))
      ∙ not_below e l sorted) in
      len-insert nat_list_cmp_total M name e.1 ∙ ap (λ b. cond b (len M) (len M + 1)) none
      ∙ ap (λ n. n + 1) (len_under l (tail_sorted e l sorted) later) ∙ add-one (length l)

-- where the pair of a key stands
pub pair_place : (l : Pairs) (n f : ℕ) → value_of l n ≡ Some f → (i : ℕ) × (i < length l) × (key_at l i ≡ n)
    × ((get_or l i (0, 0)).1 ≡ f)
pair_place [] n f e = absurd (cc)
pair_place (x ∷ l) n f e = elim (cases_eq x.0 n) [
  | inl same ↦
      let is : Some x.1 ≡ Some f = sym (ap (λ b. cond b (Some x.1) (value_of l n)) (eq-eqb x.0 n same)) ∙ e in
      (0, omega arith, same, (cc))
  | inr apart ↦
      let later = pair_place l n f (sym (ap (λ b. cond b (Some x.1) (value_of l n)) (ne_eqb x.0 n apart)) ∙ e) in
      (suc later.0, omega (arith, later.1), later.2, later.3)
]

first_of : (a b : Bool) → T (a && b) → T a
first_of true b h = tt
first_of false b h = absurd h

second_of : (a b : Bool) → T (a && b) → T b
second_of true b h = h
second_of false b h = absurd h

not_less : (x : ℕ) (e : ℕ × ℕ) → e.0 ≤ x → T (is_lt (nat_cmp x e.0)) → ⊥
not_less x e over h = elim (cases_eq x e.0) [
  | inl same ↦ subst (λ o. T (is_lt o)) (sym (nat_cmp_is x e.0 Equal same)) h
  | inr apart ↦ subst (λ o. T (is_lt o)) (sym (nat_cmp_is x e.0 Greater (omega arith))) h
]

-- postings that keep their names
pub named_extended : (old new : Names) (P : Frequencies) → Extends old new → AreNumbered old P → named new P
    ≡ named old P
named_extended old new P extends numbered = same_named _ _ (λ r. get_named new P r ∙ extends.same P numbered r
    ∙ sym (get_named old P r))

-- ---- the pairs of postings

above_all : (x : ℕ) (l : Pairs) → T (below_all nat_cmp x l) → (j : ℕ) → j < length l → x < key_at l j
above_all x [] h j lt = absurd (omega arith)
above_all x (e ∷ l) h zero lt = elim (cases_lt x e.0) [
  | inl below ↦ below
  | inr over ↦ absurd (not_less x e over (first_of _ _ h))
]
above_all x (e ∷ l) h (suc j) lt = above_all x l (second_of _ _ h) j (omega arith)

pub from_rising : (l : Pairs) → T (is_sorted nat_cmp l) → IsStrictlySorted l
from_rising [] h i j lt in_range = absurd (omega arith)
from_rising (e ∷ l) h zero zero lt in_range = absurd (omega arith)
from_rising (e ∷ l) h zero (suc j) lt in_range = above_all e.0 l (first_of _ _ h) j (omega arith)
from_rising (e ∷ l) h (suc i) zero lt in_range = absurd (omega arith)
from_rising (e ∷ l) h (suc i) (suc j) lt in_range = from_rising l (second_of _ _ h) i j (omega arith) (omega arith)

module _ (names : Names) (P : Frequencies) (numbered : AreNumbered names P) where
  pub pairs_are : ArePostings names (entries P)
  pairs_are = record { sorted = rising; there = there }
    where
      rising : IsStrictlySorted (entries P)
      rising = from_rising (entries P) (entries_sorted P)

      there : (i : ℕ) → i < length (entries P) → key_at (entries P) i < length names
      there i lt = numbered (key_at (entries P) i) (get_or (entries P) i (0, 0)).1 (get-entries P (key_at (entries P) i)
          ∙ find_value (entries P) (key_at (entries P) i) ∙ value_at_place (entries P) rising (key_at (entries P) i) i
          (record { in_range = lt; has_key = refl }))

  module _ (are : AreNames names) where
    pub pairs_named : named names P ≡ named_pairs names (entries P)
    pairs_named = is_named names are P (entries P) pairs_are.there
        (λ n. sym (get-entries P n ∙ find_value (entries P) n))

    pub len_named : len (named names P) ≡ len P
    len_named = ap len pairs_named ∙ len_under names are (entries P) pairs_are.sorted pairs_are.there
        ∙ sym (len-entries P)

-- what pairs have under a name
module _ (names : Names) (are : AreNames names) (l : Pairs) (of_names : ArePostings names l) where
  pub get_pairs_named : (r : Bytes) → get (named_pairs names l) r ≡ find text_cmp r (under_names names l)
  get_pairs_named r = get-from_entries nat_list_cmp_total (under_names names l) r

  pub found_at : (i : ℕ) → i < length l → find text_cmp (get_or names (key_at l i) []) (under_names names l)
      ≡ Some (get_or l i (0, 0)).1
  found_at i lt =
      named_find names are l of_names.there (get_or names (key_at l i) [])
      ∙ ap (λ o. option_and_then (λ n. value_of l n) o) (name_number names are (key_at l i) (of_names.there i lt))
      ∙ value_at_place l of_names.sorted (key_at l i) i (record { in_range = lt; has_key = refl })

  pub found_from : (r : Bytes) (f : ℕ) → get (named_pairs names l) r ≡ Some f → (i : ℕ) × (i < length l)
      × (slice_get names (key_at l i) ≡ Some r) × ((get_or l i (0, 0)).1 ≡ f)
  found_from r f e = by (number_of names r) refl (sym (get_pairs_named r ∙ named_find names are l of_names.there r) ∙ e)
    where
      by : (o : Option ℕ) → number_of names r ≡ o → option_and_then (λ n. value_of l n) o ≡ Some f → (i : ℕ)
          × (i < length l) × (slice_get names (key_at l i) ≡ Some r) × ((get_or l i (0, 0)).1 ≡ f)
      by None is h = absurd (cc)
      by (Some n) is h =
          let place = pair_place l n f h in
          (place.0, place.1, ap (slice_get names) place.2 ∙ number-name names r n is, place.3)

under_push : (names : Names) (l : Pairs) (e : ℕ × ℕ) → under_names names (l ++ e ∷ [])
    ≡ under_names names l ++ (get_or names e.0 [], e.1) ∷ []
under_push names [] e = refl
under_push names (d ∷ l) e = ap (λ xs. (get_or names d.0 [], d.1) ∷ xs) (under_push names l e)

pub under_more : (names : Names) (l : Pairs) (i : ℕ) → i < length l → under_names names (take (i + 1) l)
    ≡ under_names names (take i l) ++ (get_or names (key_at l i) [], (get_or l i (0, 0)).1) ∷ []
under_more names l i lt = ap (under_names names) (take_more l i (0, 0) lt)
    ∙ under_push names (take i l) (get_or l i (0, 0))

-- postings of which each is one of the others, both ways
module _ (names : Names) (are : AreNames names) (P : Frequencies) (numbered : AreNumbered names P) (names2 : Names)
    (are2 : AreNames names2) (Q : Frequencies) (numbered2 : AreNumbered names2 Q) where
  abbrev pub OneWay : Type 0
  OneWay = (r : Bytes) (f : ℕ) → get (named_pairs names (entries P)) r ≡ Some f → at names2 r Q ≡ Some f

  abbrev pub OtherWay : Type 0
  OtherWay = (r : Bytes) (f : ℕ) → get (named_pairs names2 (entries Q)) r ≡ Some f → at names r P ≡ Some f

  pub same_both_ways : OneWay → OtherWay → named names P ≡ named names2 Q
  same_both_ways one other = same_named _ _ (λ r. get_named names P r ∙ by r (at names r P) refl (at names2 r Q) refl
      ∙ sym (get_named names2 Q r))
    where
      by : (r : Bytes) (o : Option ℕ) → at names r P ≡ o → (p : Option ℕ) → at names2 r Q ≡ p → at names r P
          ≡ at names2 r Q
      by r (Some f) is p e = is ∙ sym (one r f (ap (λ S. get S r) (sym (pairs_named names P numbered are))
          ∙ get_named names P r ∙ is))
      by r None is (Some f) e = other r f (ap (λ S. get S r) (sym (pairs_named names2 Q numbered2 are2))
          ∙ get_named names2 Q r ∙ e) ∙ sym e
      by r None is None e = is ∙ sym e

  pub one_way : named names P ≡ named names2 Q → OneWay
  one_way same r f e = sym (get_named names2 Q r) ∙ ap (λ S. get S r) (sym same ∙ pairs_named names P numbered are) ∙ e

  pub other_way : named names P ≡ named names2 Q → OtherWay
  other_way same r f e = sym (get_named names P r) ∙ ap (λ S. get S r) (same ∙ pairs_named names2 Q numbered2 are2) ∙ e
