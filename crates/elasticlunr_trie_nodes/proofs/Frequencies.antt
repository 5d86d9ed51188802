-- Sorted pairs as a finite map.
use Rattle.std.proofs.Common.{◌≡◌, ℕ, suc, ◌<◌, Bool, true, false, cond, eqb, [], ◌∷◌, length, Some, None, inl, inr}
use Rattle.std.proofs.Common.{refl, sym, ap, subst, ◌∙◌, arith, ne_eqb, Less, Equal, Greater}
use Rattle.std.specs.Prelude.{T, ◌&&◌}
use Rattle.std.specs.Ordering.{nat_cmp, eq_by_cmp, is_eq, is_lt}
use Rattle.std.specs.Cmp.{nat_cmp_is}
use Rattle.std.specs.FinMap as map
use Rattle.std.specs.FinMap.Entries.{find, is_sorted, below_all}
use Rattle.std.proofs.lemmas.Bool.{cases_eq, cases_lt, eq-eqb}
use Rattle.std.proofs.lemmas.Cmp.{nat_cmp_total}
use Rattle.elasticlunr_trie_nodes.specs.Pairs.{Pairs, value_of, key_at, IsStrictlySorted}
use Rattle.elasticlunr_trie_nodes.specs.Frequencies.{Frequencies, frequencies_of}
use Rattle.elasticlunr_trie_nodes.proofs.Found.{GetsAfterSet, GetsAfterRemove}

-- the order of numbers ties exactly where their test does
pub ties : (q k : ℕ) → eq_by_cmp nat_cmp q k ≡ eqb k q
ties q k = elim (cases_eq k q) [
  | inl same ↦ sym (ap is_eq (nat_cmp_is q k Equal (sym same))) ∙ sym (eq-eqb k q same)
  | inr apart ↦ elim (cases_lt q k) [
    | inl below ↦ sym (ap is_eq (nat_cmp_is q k Less below)) ∙ sym (ne_eqb k q apart)
    | inr above ↦ sym (ap is_eq (nat_cmp_is q k Greater (omega arith))) ∙ sym (ne_eqb k q apart)
  ]
]

both : (a b : Bool) → T a → T b → T (a && b)
both true b p q = q
both false b p q = absurd p

below : (l : Pairs) (x : ℕ) → ((j : ℕ) → j < length l → x < key_at l j) → T (below_all nat_cmp x l)
below [] x h = tt
below (e ∷ l) x h = both _ _ (subst (λ r. T (is_lt r)) (nat_cmp_is x e.0 Less (h 0 (omega arith))) tt)
    (below l x (λ j lt. h (suc j) (omega arith)))

pub rising : (l : Pairs) → IsStrictlySorted l → T (is_sorted nat_cmp l)
rising [] sorted = tt
rising (e ∷ l) sorted = both _ _ (below l e.0 (λ j lt. sorted 0 (suc j) (omega arith) (omega arith)))
    (rising l (λ i j lt in_range. sorted (suc i) (suc j) (omega arith) (omega arith)))

pub find_value : (l : Pairs) (q : ℕ) → find nat_cmp q l ≡ value_of l q
find_value [] q = refl
find_value (e ∷ l) q = ap (λ b. cond b (Some e.1) (find nat_cmp q l)) (ties q e.0)
    ∙ ap (λ o. cond (eqb e.0 q) (Some e.1) o) (find_value l q)

module _ (l : Pairs) (sorted : IsStrictlySorted l) where
  -- what the pairs represent
  pub seen_entries : map.entries (frequencies_of l) ≡ l
  seen_entries = map.entries-from_sorted nat_cmp l (rising l sorted)

  pub seen_get : (q : ℕ) → map.get (frequencies_of l) q ≡ value_of l q
  seen_get q = map.get-from_sorted nat_cmp l q (rising l sorted) ∙ find_value l q

  pub seen_len : map.len (frequencies_of l) ≡ length l
  seen_len = map.len-entries _ ∙ ap length seen_entries

pub same_frequencies : (M N : Frequencies) → ((q : ℕ) → map.get M q ≡ map.get N q) → M ≡ N
same_frequencies M N same = map.same_map nat_cmp_total map.nat_cmp-IsAntisymmetric M N same

module _ (l m : Pairs) (sorted : IsStrictlySorted l) (sorted2 : IsStrictlySorted m) (k : ℕ) where
  pub seen_set : (v : ℕ) → GetsAfterSet l m k v → frequencies_of m ≡ map.insert (frequencies_of l) k v
  seen_set v gets = same_frequencies _ _ (λ q.
      seen_get m sorted2 q ∙ gets q ∙ ap (λ o. cond (eqb k q) (Some v) o) (sym (seen_get l sorted q))
      ∙ ap (λ b. cond b (Some v) (map.get (frequencies_of l) q)) (sym (ties q k))
      ∙ sym (map.get-insert nat_cmp_total (frequencies_of l) k v q))

  pub seen_remove : GetsAfterRemove l m k → frequencies_of m ≡ map.remove (frequencies_of l) k
  seen_remove gets = same_frequencies _ _ (λ q.
      seen_get m sorted2 q ∙ gets q ∙ ap (λ o. cond (eqb k q) None o) (sym (seen_get l sorted q))
      ∙ ap (λ b. cond b None (map.get (frequencies_of l) q)) (sym (ties q k))
      ∙ sym (map.get-remove nat_cmp_total (frequencies_of l) k q))

pub seen_empty : frequencies_of [] ≡ map.empty
seen_empty = same_frequencies _ _ (λ q. map.get-from_sorted nat_cmp [] q tt ∙ sym (map.get-empty nat_cmp q))

-- a key that is not there changes nothing when it is taken away
pub seen_absent : (l : Pairs) → IsStrictlySorted l → (k : ℕ) → value_of l k ≡ None → frequencies_of l
    ≡ map.remove (frequencies_of l) k
seen_absent l sorted k none = seen_remove l l sorted sorted k (λ q. elim (cases_eq k q) [
  | inl same ↦ subst (λ y. value_of l y ≡ None) same none ∙ ap (λ b. cond b None (value_of l q)) (sym (eq-eqb k q same))
  | inr apart ↦ ap (λ b. cond b None (value_of l q)) (sym (ne_eqb k q apart))
])
