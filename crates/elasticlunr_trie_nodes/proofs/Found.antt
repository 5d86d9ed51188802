-- What `value_of` finds in a list of pairs, and what an edit of the list does to it.
use Rattle.std.proofs.Common.{◌≡◌, ℕ, zero, suc, ◌<◌, ◌≤◌, eqb, ◌≢◌, [], ◌∷◌, length, get_or, set, if◌then◌else◌, Some}
use Rattle.std.proofs.Common.{None, IsSome, IsSomeAnd, slice_get, refl, subst, inl, inr, arith}
use mathlib.Core.Bool.{false≢true}
use Rattle.std.specs.List.{insert, remove}
use Rattle.std.proofs.lemmas.Bool.{cases_lt}
use Rattle.std.proofs.lemmas.Bool.Decides.{nat_tests}
use Rattle.elasticlunr_trie_nodes.specs.Pairs.{Pairs, value_of, key_at, IsAt, IsStrictlySorted}

-- no pair before place i has the key
abbrev pub NoKeyBefore : Pairs → ℕ → ℕ → Type 0
NoKeyBefore l k i = (j : ℕ) → j < i → key_at l j ≢ k

-- `value_of` on new answers v at the key k, and as on old at any other key
abbrev pub GetsAfterSet : Pairs → Pairs → ℕ → ℕ → Type 0
GetsAfterSet old new k v = (q : ℕ) → value_of new q ≡ (if eqb k q then Some v else value_of old q)

-- no pair of the tail has the key either
no_key_before_tail : (x : ℕ × ℕ) (l : Pairs) (k i : ℕ) → NoKeyBefore (x ∷ l) k (suc i) → NoKeyBefore l k i
no_key_before_tail x l k i no_key j lt = no_key (suc j) (omega arith)

-- in the tail, a pair is one place lower
is_at_tail : (x : ℕ × ℕ) (l : Pairs) (k i : ℕ) → IsAt (x ∷ l) k (suc i) → IsAt l k i
is_at_tail x l k i is_at = record { in_range = omega (arith, is_at.in_range); has_key = is_at.has_key }

-- a key that no pair has is not found
pub value_absent : (l : Pairs) (k : ℕ) → NoKeyBefore l k (length l) → value_of l k ≡ None
value_absent [] k no_key = refl
value_absent (x ∷ l) k no_key = grind (
  arith,
  nat_tests,
  no_key 0 (omega arith),
  value_absent l k
      (no_key_before_tail x l k _ no_key),
)

-- the first pair that has the key gives the value
pub value_present : (l : Pairs) (k i : ℕ) → IsAt l k i → NoKeyBefore l k i → value_of l k ≡ Some (get_or l i (0, 0)).1
value_present [] k i is_at no_key = absurd (omega (arith, is_at.in_range))
value_present (x ∷ l) k zero is_at no_key = grind (arith, nat_tests, is_at.has_key)
value_present (x ∷ l) k (suc i) is_at no_key =
    grind (
      arith,
      nat_tests,
      no_key 0 (omega arith),
      value_present l k i (is_at_tail x l k i is_at)
          (no_key_before_tail x l k i no_key),
    )

-- writing over the first pair that has the key sets its value
pub value_set : (l : Pairs) (k v i : ℕ) → IsAt l k i → NoKeyBefore l k i → GetsAfterSet l (set l i (k, v)) k v
value_set [] k v i is_at no_key q = absurd (omega (arith, is_at.in_range))
value_set (x ∷ l) k v zero is_at no_key q = grind (arith, nat_tests, is_at.has_key)
value_set (x ∷ l) k v (suc i) is_at no_key q =
    grind (
      arith,
      nat_tests,
      no_key 0 (omega arith),
      value_set l k v i (is_at_tail x l k i is_at)
          (no_key_before_tail x l k i no_key) q,
    )

-- so does a new pair before any pair that has the key
pub value-insert : (l : Pairs) (k v i : ℕ) → NoKeyBefore l k i → GetsAfterSet l (insert l i (k, v)) k v
value-insert l k v zero no_key q = refl
value-insert [] k v (suc i) no_key q = refl
value-insert (x ∷ l) k v (suc i) no_key q =
    grind (arith, nat_tests, no_key 0 (omega arith), value-insert l k v i (no_key_before_tail x l k i no_key) q)

-- in a sorted list, a key below the first is not found
value_below_first : (l : Pairs) → IsStrictlySorted l → (k : ℕ) → k < key_at l 0 → value_of l k ≡ None
value_below_first l sorted k below = value_absent l k no_key
  where
    no_key : NoKeyBefore l k (length l)
    no_key zero in_range same = omega arith
    no_key (suc j) in_range same = omega (arith, sorted 0 (suc j) (omega arith) in_range)

-- in a sorted list, a key that is found is at least the first
pub first_key_le : (l : Pairs) → IsStrictlySorted l → (k : ℕ) → IsSome (value_of l k)
    → IsSomeAnd (slice_get l 0) (λ pair. pair.0 ≤ k)
first_key_le [] sorted k found = absurd (false≢true found)
first_key_le (x ∷ l) sorted k found = elim (cases_lt k x.0) [
  | inl below ↦ absurd (false≢true (rw (value_below_first (x ∷ l) sorted k below) at found))
  | inr at_least ↦ at_least
]

-- `value_of` on new has nothing at the key k, and answers as on old at any other key
abbrev pub GetsAfterRemove : Pairs → Pairs → ℕ → Type 0
GetsAfterRemove old new k = (q : ℕ) → value_of new q ≡ (if eqb k q then None else value_of old q)

-- taking away the only pair that has the key removes it
pub value-remove : (l : Pairs) (k i : ℕ) → IsAt l k i → IsStrictlySorted l → GetsAfterRemove l (remove l i) k
value-remove [] k i is_at sorted q = absurd (omega (arith, is_at.in_range))
value-remove (x ∷ l) k zero is_at sorted q =
    let gone : value_of l k ≡ None = value_absent l k
    (λ j lt same. omega (arith, sorted 0 (suc j) (omega arith) (omega arith), is_at.has_key)) in
    grind (arith, nat_tests, is_at.has_key, λ (e : k ≡ q). subst (λ y. value_of l y ≡ None) e gone)
value-remove (x ∷ l) k (suc i) is_at sorted q =
    grind (
      arith,
      nat_tests,
      sorted 0 (suc i) (omega arith) is_at.in_range,
      is_at.has_key,
      value-remove l k i
          (is_at_tail x l k i is_at) (λ a b lt in_range. sorted (suc a) (suc b) (omega arith) (omega arith)) q,
    )
