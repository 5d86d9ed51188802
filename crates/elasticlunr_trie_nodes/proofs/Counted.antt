-- A count of the pairs with smaller keys, one pair after the other.
use Rattle.std.proofs.Common.{◌≡◌, ℕ, ◌+◌, ◌<◌, ◌≤◌, Bool, true, false, true≢false, refl, length, inl, inr, sym, subst}
use Rattle.std.proofs.Common.{arith}
use Rattle.std.specs.Int.{from_bool}
use Rattle.std.proofs.lemmas.Bool.{cases_eq, cases_lt}
use Rattle.elasticlunr_trie_nodes.specs.Pairs.{Pairs, key_at, IsStrictlySorted}

-- of the first i pairs, the first ones have smaller keys
abbrev pub Counted : Pairs → ℕ → ℕ → ℕ → Type 0
Counted l key i count = (count ≤ i) × ((j : ℕ) → j < count → key_at l j < key)
    × ((j : ℕ) → count ≤ j → j < i → key ≤ key_at l j)

-- the next pair is counted where its key is smaller
pub count_step : (l : Pairs) (key i count : ℕ) (b : Bool) → i < length l → IsStrictlySorted l
    → (b ≡ true → key_at l i < key) → (key_at l i < key → b ≡ true) → Counted l key i count
    → Counted l key (i + 1) (count + from_bool b)
count_step l key i count true lt sorted less back before = elim (cases_eq count i) [
  | inl same ↦ (
    omega arith,
    λ j low. elim (cases_eq j i) [
      | inl here ↦ subst (λ x. key_at l x < key) (sym here) (less refl)
      | inr apart ↦ before.1 j (omega arith)
    ],
    λ j high low. absurd (omega arith),
  )
  | inr apart ↦
      let one : key ≤ key_at l count = before.2 count (omega arith) (omega arith) in
      let two : key_at l count < key_at l i = sorted count i (omega arith) lt in
      let three : key_at l i < key = less refl in
      absurd (omega arith)
]
count_step l key i count false lt sorted less back before = (
  omega arith,
  λ j low. before.1 j (omega arith),
  λ j high low. elim (cases_eq j i) [
    | inl here ↦ elim (cases_lt (key_at l i) key) [
      | inl below ↦ absurd (true≢false (sym (back below)))
      | inr above ↦ subst (λ x. key ≤ key_at l x) (sym here) (omega arith)
    ]
    | inr apart ↦ before.2 j (omega arith) (omega arith)
  ],
)
