-- Sets of numbers.
use Rattle.std.proofs.Common.{◌≡◌, ◌<◌, ◌≤◌, ◌+◌, if◌then◌else◌, ◌↔◌, ◌⊎◌, inl, inr, ℕ, Bool, true, false, Some, None, refl, sym, ap, ◌∙◌, subst, arith}
use Rattle.std.proofs.Common.{Less, Equal, Greater}
use Rattle.std.specs.Prelude.{IsTrue}
use Rattle.std.specs.BTreeSet.{BTreeSet, Updates, contains}
use Rattle.std.specs.Ordering.{is_eq, nat_cmp}
use Rattle.std.specs.declared.cmp.Ordering.{Ordering}
use Rattle.std.proofs.lemmas.Bool.{cases_lt}
use Rattle.std.proofs.lemmas.Map.Lookups.{exact_unsigned}
use Rattle.elasticlunr_piece_head.proofs.Order.{number_itself}

-- with one number more
one_more : (s n : BTreeSet ℕ) (number : ℕ) → Updates nat_cmp s n number true → (q : ℕ)
    → IsTrue (contains nat_cmp n q) ↔ (IsTrue (contains nat_cmp s q) ⊎ (number ≡ q))
one_more s n number updates q = (λ h. by (nat_cmp number q) refl h, back)
  where
    has : (b : Bool) → is_eq (nat_cmp number q) ≡ b
        → contains nat_cmp n q ≡ (if b then true else contains nat_cmp s q)
    has b e = updates.0 q ∙ ap (λ b. if b then true else contains nat_cmp s q) e

    by : (o : Ordering) → nat_cmp number q ≡ o → IsTrue (contains nat_cmp n q)
        → IsTrue (contains nat_cmp s q) ⊎ (number ≡ q)
    by Equal e h = inr (exact_unsigned number q e)
    by Less e h = inl (subst IsTrue (has false (ap is_eq e)) h)
    by Greater e h = inl (subst IsTrue (has false (ap is_eq e)) h)

    same : number ≡ q → is_eq (nat_cmp number q) ≡ true
    same e = ap (λ m. is_eq (nat_cmp number m)) (sym e) ∙ ap is_eq (number_itself number)

    kept : IsTrue (contains nat_cmp s q) → (b : Bool) → is_eq (nat_cmp number q) ≡ b → IsTrue (contains nat_cmp n q)
    kept h true e = has true e
    kept h false e = has false e ∙ h

    back : IsTrue (contains nat_cmp s q) ⊎ (number ≡ q) → IsTrue (contains nat_cmp n q)
    back (inl h) = kept h (is_eq (nat_cmp number q)) refl
    back (inr e) = has true (same e)

-- the numbers of a range up to one, and that one
pub range_more : (first s n : BTreeSet ℕ) (from number : ℕ) → from ≤ number → Updates nat_cmp s n number true
    → ((q : ℕ) → IsTrue (contains nat_cmp s q) ↔ (IsTrue (contains nat_cmp first q) ⊎ ((from ≤ q) × (q < number))))
    → (q : ℕ)
    → IsTrue (contains nat_cmp n q) ↔ (IsTrue (contains nat_cmp first q) ⊎ ((from ≤ q) × (q < number + 1)))
range_more first s n from number le updates so_far q = (there, back)
  where
    old : IsTrue (contains nat_cmp first q) ⊎ ((from ≤ q) × (q < number))
        → IsTrue (contains nat_cmp first q) ⊎ ((from ≤ q) × (q < number + 1))
    old (inl h) = inl h
    old (inr h) = let lt = h.1 in inr (h.0, omega arith)

    split : IsTrue (contains nat_cmp s q) ⊎ (number ≡ q)
        → IsTrue (contains nat_cmp first q) ⊎ ((from ≤ q) × (q < number + 1))
    split (inl h) = old ((so_far q).0 h)
    split (inr e) = inr (omega arith, omega arith)

    there : IsTrue (contains nat_cmp n q) → IsTrue (contains nat_cmp first q) ⊎ ((from ≤ q) × (q < number + 1))
    there h = split ((one_more s n number updates q).0 h)

    last : from ≤ q → q < number + 1 → (q < number) ⊎ (number ≤ q) → IsTrue (contains nat_cmp n q)
    last low high (inl lt) = (one_more s n number updates q).1 (inl ((so_far q).1 (inr (low, lt))))
    last low high (inr ge) = (one_more s n number updates q).1 (inr (omega arith))

    back : IsTrue (contains nat_cmp first q) ⊎ ((from ≤ q) × (q < number + 1)) → IsTrue (contains nat_cmp n q)
    back (inl h) = (one_more s n number updates q).1 (inl ((so_far q).1 (inl h)))
    back (inr h) = last h.0 h.1 (cases_lt q number)

-- the numbers of a whole range
pub range_all : (first s : BTreeSet ℕ) (from end number : ℕ) → end ≤ number → (number ≡ from) ⊎ (number ≤ end)
    → ((q : ℕ) → IsTrue (contains nat_cmp s q) ↔ (IsTrue (contains nat_cmp first q) ⊎ ((from ≤ q) × (q < number))))
    → (q : ℕ) → IsTrue (contains nat_cmp s q) ↔ (IsTrue (contains nat_cmp first q) ⊎ ((from ≤ q) × (q < end)))
range_all first s from end number past how so_far q = (there, back)
  where
    narrow : (number ≡ from) ⊎ (number ≤ end) → IsTrue (contains nat_cmp first q) ⊎ ((from ≤ q) × (q < number))
        → IsTrue (contains nat_cmp first q) ⊎ ((from ≤ q) × (q < end))
    narrow how (inl h) = inl h
    narrow (inl e) (inr h) = let low = h.0 in let high = h.1 in absurd (omega arith)
    narrow (inr le) (inr h) = let low = h.0 in let high = h.1 in inr (low, omega arith)

    there : IsTrue (contains nat_cmp s q) → IsTrue (contains nat_cmp first q) ⊎ ((from ≤ q) × (q < end))
    there h = narrow how ((so_far q).0 h)

    back : IsTrue (contains nat_cmp first q) ⊎ ((from ≤ q) × (q < end)) → IsTrue (contains nat_cmp s q)
    back (inl h) = (so_far q).1 (inl h)
    back (inr h) = let high = h.1 in (so_far q).1 (inr (h.0, omega arith))

-- a number, if there is one
pub number_more : (s n : BTreeSet ℕ) (number : ℕ) → Updates nat_cmp s n number true → (q : ℕ)
    → IsTrue (contains nat_cmp n q) ↔ (IsTrue (contains nat_cmp s q) ⊎ (Some number ≡ Some q))
number_more s n number updates q = (λ h. there ((one_more s n number updates q).0 h), λ h. (one_more s n number updates q).1 (back h))
  where
    there : IsTrue (contains nat_cmp s q) ⊎ (number ≡ q) → IsTrue (contains nat_cmp s q) ⊎ (Some number ≡ Some q)
    there (inl h) = inl h
    there (inr e) = inr (ap Some e)

    back : IsTrue (contains nat_cmp s q) ⊎ (Some number ≡ Some q) → IsTrue (contains nat_cmp s q) ⊎ (number ≡ q)
    back (inl h) = inl h
    back (inr e) = let same : number ≡ q = cc (e) in inr same

pub no_number : (s : BTreeSet ℕ) (q : ℕ)
    → IsTrue (contains nat_cmp s q) ↔ (IsTrue (contains nat_cmp s q) ⊎ (None ≡ Some q))
no_number s q = (λ h. inl h, back)
  where
    back : IsTrue (contains nat_cmp s q) ⊎ (None ≡ Some q) → IsTrue (contains nat_cmp s q)
    back (inl h) = h
    back (inr e) = absurd (cc (e))

-- what one more of the things that are asked for needs
pub token_more : (P : ℕ → ℕ → Type 0) (R : ℕ → Type 0) (s n : BTreeSet ℕ) (i : ℕ)
    → ((q : ℕ) → IsTrue (contains nat_cmp n q) ↔ (IsTrue (contains nat_cmp s q) ⊎ R q))
    → ((q : ℕ) → R q ↔ P i q)
    → ((q : ℕ) → IsTrue (contains nat_cmp s q) ↔ ((k : ℕ) × (k < i) × P k q))
    → (q : ℕ) → IsTrue (contains nat_cmp n q) ↔ ((k : ℕ) × (k < i + 1) × P k q)
token_more P R s n i put needed so_far q = (λ h. there ((put q).0 h), λ found. back found.0 found.1 found.2)
  where
    there : IsTrue (contains nat_cmp s q) ⊎ R q → (k : ℕ) × (k < i + 1) × P k q
    there (inl h) = let found = (so_far q).0 h in let low = found.1 in (found.0, omega arith, found.2)
    there (inr h) = (i, omega arith, (needed q).0 h)

    split : (k : ℕ) → k < i + 1 → P k q → (k < i) ⊎ (i ≤ k) → IsTrue (contains nat_cmp n q)
    split k low is (inl lt) = (put q).1 (inl ((so_far q).1 (k, lt, is)))
    split k low is (inr ge) = let same : k ≡ i = omega arith in
        (put q).1 (inr ((needed q).1 (subst (λ m. P m q) same is)))

    back : (k : ℕ) → k < i + 1 → P k q → IsTrue (contains nat_cmp n q)
    back k low is = split k low is (cases_lt k i)
