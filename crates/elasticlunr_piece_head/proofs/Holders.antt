-- Which piece of the texts has the document at a place.
use Rattle.std.proofs.Common.{◌≡◌, ◌<◌, ◌≤◌, ◌+◌, ◌-◌, ◌⊎◌, inl, inr, ℕ, zero, suc, List, [], ◌∷◌, ◌++◌, Some, take}
use Rattle.std.proofs.Common.{refl, sym, ap, ◌∙◌, arith}
use Rattle.std.specs.Prelude.{replicate, slice_get, sum}
use Rattle.std.proofs.lemmas.Bool.{cases_lt}
use Rattle.std.proofs.lemmas.List.Sums.{sum_by-cons}
use Rattle.elasticlunr_piece_head.specs.Holders.{holders_from}

left : (c m p : ℕ) (ys : List ℕ) → p < c → slice_get (replicate c m ++ ys) p ≡ Some m
left zero m p ys lt = absurd (omega (arith, lt))
left (suc c) m zero ys lt = refl
left (suc c) m (suc p) ys lt = left c m p ys (omega (arith, lt))

right : (c m p : ℕ) (ys : List ℕ) → c ≤ p → slice_get (replicate c m ++ ys) p ≡ slice_get ys (p - c)
right zero m p ys le = let e : p ≡ p - 0 = omega arith in ap (slice_get ys) e
right (suc c) m zero ys le = absurd (omega (arith, le))
right (suc c) m (suc p) ys le = right c m p ys (omega (arith, le))
    ∙ (let e : p - c ≡ suc p - suc c = omega arith in ap (slice_get ys) e)

one_more : (c k : ℕ) (cs : List ℕ) → sum (take (suc k) (c ∷ cs)) ≡ c + sum (take k cs)
one_more c k cs = sum_by-cons (λ x. x) c (take k cs)

-- the piece with this number has the document at the place, of pieces with so many documents
pub record HasPlace (counts : List ℕ) (k p : ℕ) : Type 0 where
  pub from : sum (take k counts) ≤ p
  pub end : p < sum (take (suc k) counts)

pub held_at : (counts : List ℕ) (m p n : ℕ) → slice_get (holders_from m counts) p ≡ Some n
    → (k : ℕ) × (n ≡ m + k) × HasPlace counts k p
held_at [] m p n is = absurd (cc)
held_at (c ∷ cs) m p n is = by (λ i. held_at cs (suc m) (p - c) n i) (cases_lt p c)
  where
    by : (slice_get (holders_from (suc m) cs) (p - c) ≡ Some n → (k : ℕ) × (n ≡ suc m + k) × HasPlace cs k (p - c))
        → (p < c) ⊎ (c ≤ p) → (k : ℕ) × (n ≡ m + k) × HasPlace (c ∷ cs) k p
    by rest (inl lt) =
        let same : Some m ≡ Some n = sym (left c m p (holders_from (suc m) cs) lt) ∙ is in
        let here : m ≡ n = cc in
        let first = one_more c zero cs in
        let none : sum (take zero cs) ≡ 0 = refl in
        (zero, omega (arith, here), record { from = omega arith; end = omega (arith, first, none, lt) })
    by rest (inr ge) =
        let later = rest (sym (right c m p (holders_from (suc m) cs) ge) ∙ is) in
        let k = later.0 in
        let number = later.1 in
        let low = later.2.from in
        let high = later.2.end in
        let before = one_more c k cs in
        let after = one_more c (suc k) cs in (
          suc k,
          omega (arith, number),
          record { from = omega (arith, low, before, ge); end = omega (arith, high, after, ge) },
        )

pub held_by : (counts : List ℕ) (m k p : ℕ) → sum (take k counts) ≤ p → p < sum (take (suc k) counts)
    → slice_get (holders_from m counts) p ≡ Some (m + k)
held_by [] m k p low high = let none : sum [] ≡ 0 = refl in absurd (omega (arith, high, none))
held_by (c ∷ cs) m zero p low high =
    let first = one_more c zero cs in
    let none : sum (take zero cs) ≡ 0 = refl in
    let e : m ≡ m + 0 = omega arith in
    left c m p (holders_from (suc m) cs) (omega (arith, high, first, none)) ∙ ap Some e
held_by (c ∷ cs) m (suc k) p low high =
    let before = one_more c k cs in
    let after = one_more c (suc k) cs in
    let e : suc m + k ≡ m + suc k = omega arith in
    right c m p (holders_from (suc m) cs) (omega (arith, low, before))
    ∙ held_by cs (suc m) k (p - c) (omega (arith, low, before)) (omega (arith, high, after, low, before)) ∙ ap Some e
