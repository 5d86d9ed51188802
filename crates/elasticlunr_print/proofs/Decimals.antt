-- A decimal text is that of one number.
use Rattle.std.proofs.Common.{◌≡◌, ℕ, zero, suc, ◌+◌, ◌/◌, ◌%◌, ◌^◌, ◌<◌, ◌≤◌, inl, inr, List, [], ◌∷◌, length, false}
use Rattle.std.proofs.Common.{cond, decimal, sym, ap, ◌∙◌, arith}
use Rattle.std.proofs.lemmas.Bool.{cases_lt, ne_eqb}
use Rattle.std.proofs.lemmas.Fmt.{decimal_is_IsNumeral_wide, length-decimal-le}
use Rattle.std.proofs.Math.Nat.{pow-suc}
use Rattle.std.specs.Fmt.{digits, digits_onto, digit_glyph}
use Rattle.std.specs.Str.Parse.{digits_value}

-- a number of more than k digits is cut to k
cut : (k n : ℕ) (after : List ℕ) → 10 ^ k ≤ n → length (digits_onto k 10 false n after) ≡ k + length after
cut zero n after h = omega arith
cut (suc k) n after h =
    let more = pow-suc 10 k in
    let up : 10 ^ k ≤ n / 10 = omega (arith, more) in
    let some : n / 10 ≡ 0 → ⊥ = λ e. omega (arith, more, e, pow-some k) in
    ap (λ b. length (cond b (digit_glyph false (n % 10) ∷ after)
    (digits_onto k 10 false (n / 10) (digit_glyph false (n % 10) ∷ after)))) (ne_eqb (n / 10) 0 some)
    ∙ cut k (n / 10) (digit_glyph false (n % 10) ∷ after) up ∙ omega arith
  where
    pow-some : (j : ℕ) → 0 < 10 ^ j
    pow-some zero = omega arith
    pow-some (suc j) = omega (arith, pow-suc 10 j, pow-some j)

long : (n : ℕ) → 10 ^ 64 ≤ n → length (decimal n) ≡ 64
unfolding digits
long n h = cut 64 n [] h

-- a number of 64 bits is the one of its text
pub same_number : (m n : ℕ) → m < 2 ^ 64 → decimal m ≡ decimal n → m ≡ n
same_number m n small same = elim (cases_lt n (10 ^ 64)) [
  | inl h ↦ sym (decimal_is_IsNumeral_wide m (omega arith)).1 ∙ ap (digits_value 10) same
      ∙ (decimal_is_IsNumeral_wide n h).1
  | inr h ↦
      let short : length (decimal m) ≤ 20 = length-decimal-le 20 m (omega arith) (omega arith) small in
      absurd (omega (arith, short, ap length same, long n h))
]
