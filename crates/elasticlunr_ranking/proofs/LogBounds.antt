-- Bounds of the logarithm.
use Rattle.std.proofs.Common.{◌≡◌, ◌<◌, ◌≤◌, ◌+◌, ◌-◌, ◌*◌, ◌/◌, ◌%◌, ◌^◌, ℕ, zero, suc, Bool, true, false, cond}
use Rattle.std.proofs.Common.{refl, sym, ap, subst, ◌∙◌, arith, pos}
use Rattle.std.specs.Prelude.{T, ◌&&◌, ◌||◌, nat_lt, nat_le, ◌==◌}
use Rattle.std.specs.Float.{Float, nan, inf, fin, binary64}
use mathlib.Core.Bool.{beq, true≢false}
use native.Mathlib.Nat.{le_of_lt, lt_irrefl, zero-mul, le_trans, le_of_eq, mul-le-mul, mul-le-mul_right, le_of_mul-le-mul_right, mul_right_comm, mul-pos, mul-one, mod-lt, mod-eq_of_lt, div-lt_iff_lt-mul, lt_of_lt_of_le}
use borrow.Author.Tests.{lt-leb, le-ltb, ne_eqb}
use lib.Dec.{eqb, ltb, leb, lit<, lit≤}
use lib.Pow.{pow_mono, pow_pos, shr_lt}
use lib.Ieee.{add, down, eq, fits, is_nan, neg, odd, of_bits, of_fields, round, sub, sum, to_bits, up}
use lib.Ieee.Bits.{to_bits-lt}
use lib.Ieee.Exact.{HasValue, odd_sign}
use lib.Ieee.Fits.{down_pos, up_pos}
use Rattle.elasticlunr_ranking.specs.Doubles.{◌+ᵈ◌, ◌-ᵈ◌, ◌*ᵈ◌, ◌/ᵈ◌, whole}
use Rattle.elasticlunr_ranking.specs.Logarithm.{logarithm_at, logarithm_far, logarithm_mid, logarithm_near, logarithm_of}
use Rattle.elasticlunr_ranking.specs.Logarithm.{logarithm_of_bits, series_of}
use Rattle.elasticlunr_ranking.specs.Numbers as n
use Rattle.elasticlunr_ranking.proofs.Bounds.{AtLeastOne, Signed, Within, at_least, less, over, plus, round_signed, round_turned}
use Rattle.elasticlunr_ranking.proofs.Bounds.{saturated, times, two_to, whole_within}

-- the numbers of the logarithm
half : Within 0 n.half
unfolding of_bits
half = lit≤ tt

third : Within 0 n.third
unfolding of_bits
third = lit≤ tt

ln_high : Within 0 n.ln_2_high
unfolding of_bits
ln_high = lit≤ tt

ln_low : Within 0 n.ln_2_low
unfolding of_bits
ln_low = lit≤ tt

c1 : Within 0 n.coefficient_1
unfolding of_bits
c1 = lit≤ tt

c2 : Within 0 n.coefficient_2
unfolding of_bits
c2 = lit≤ tt

c3 : Within 0 n.coefficient_3
unfolding of_bits
c3 = lit≤ tt

c4 : Within 0 n.coefficient_4
unfolding of_bits
c4 = lit≤ tt

c5 : Within 0 n.coefficient_5
unfolding of_bits
c5 = lit≤ tt

c6 : Within 0 n.coefficient_6
unfolding of_bits
c6 = lit≤ tt

c7 : Within 0 n.coefficient_7
unfolding of_bits
c7 = lit≤ tt

exponent_one : Within 10 n.exponent_of_one
unfolding of_bits
exponent_one = lit≤ tt

exponent_half : Within 10 n.exponent_of_half
unfolding of_bits
exponent_half = lit≤ tt

pub one_is : n.one_double ≡ fin false 1 (pos 0)
unfolding of_bits
one_is = refl

pub two_is : n.two_double ≡ fin false 1 (pos 1)
unfolding of_bits
two_is = refl

pub zero_is : n.zero_double ≡ fin false 0 (pos 0)
unfolding of_bits
zero_is = refl

-- its parts
series : (s : Float) → Within 1 s → Within 18 (series_of s)
series s hs =
    let z = s *ᵈ s in
    let w = z *ᵈ z in
    let hz : Within 2 z = times 1 1 2 (lit< tt) (lit≤ tt) s s hs hs in
    let hw : Within 4 w = times 2 2 4 (lit< tt) (lit≤ tt) z z hz hz in
    let a7 = w *ᵈ n.coefficient_7 in
    let h7 : Within 4 a7 = times 4 0 4 (lit< tt) (lit≤ tt) w n.coefficient_7 hw c7 in
    let a5 = n.coefficient_5 +ᵈ a7 in
    let h5 : Within 5 a5 = plus 4 0 4 (lit< tt) (lit≤ tt) (lit≤ tt) n.coefficient_5 a7 c5 h7 in
    let b5 = w *ᵈ a5 in
    let k5 : Within 9 b5 = times 4 5 9 (lit< tt) (lit≤ tt) w a5 hw h5 in
    let a3 = n.coefficient_3 +ᵈ b5 in
    let h3 : Within 10 a3 = plus 9 0 9 (lit< tt) (lit≤ tt) (lit≤ tt) n.coefficient_3 b5 c3 k5 in
    let b3 = w *ᵈ a3 in
    let k3 : Within 14 b3 = times 4 10 14 (lit< tt) (lit≤ tt) w a3 hw h3 in
    let a1 = n.coefficient_1 +ᵈ b3 in
    let h1 : Within 15 a1 = plus 14 0 14 (lit< tt) (lit≤ tt) (lit≤ tt) n.coefficient_1 b3 c1 k3 in
    let b1 = z *ᵈ a1 in
    let k1 : Within 17 b1 = times 2 15 17 (lit< tt) (lit≤ tt) z a1 hz h1 in
    let a6 = w *ᵈ n.coefficient_6 in
    let h6 : Within 4 a6 = times 4 0 4 (lit< tt) (lit≤ tt) w n.coefficient_6 hw c6 in
    let a4 = n.coefficient_4 +ᵈ a6 in
    let h4 : Within 5 a4 = plus 4 0 4 (lit< tt) (lit≤ tt) (lit≤ tt) n.coefficient_4 a6 c4 h6 in
    let b4 = w *ᵈ a4 in
    let k4 : Within 9 b4 = times 4 5 9 (lit< tt) (lit≤ tt) w a4 hw h4 in
    let a2 = n.coefficient_2 +ᵈ b4 in
    let h2 : Within 10 a2 = plus 9 0 9 (lit< tt) (lit≤ tt) (lit≤ tt) n.coefficient_2 b4 c2 k4 in
    let b2 = w *ᵈ a2 in
    let k2 : Within 14 b2 = times 4 10 14 (lit< tt) (lit≤ tt) w a2 hw h2 in
    plus 17 17 14 (lit< tt) (lit≤ tt) (lit≤ tt) b1 b2 k1 k2

module _ (k f : Float) (hk : Within 13 k) (hf : Within 1 f) where
  high : Within 13 (k *ᵈ n.ln_2_high)
  high = times 13 0 13 (lit< tt) (lit≤ tt) k n.ln_2_high hk ln_high

  lower : Within 13 (k *ᵈ n.ln_2_low)
  lower = times 13 0 13 (lit< tt) (lit≤ tt) k n.ln_2_low hk ln_low

  near : Within 24 (logarithm_near k f)
  near =
      let ff : Within 2 (f *ᵈ f) = times 1 1 2 (lit< tt) (lit≤ tt) f f hf hf in
      let tf : Within 1 (n.third *ᵈ f) = times 0 1 1 (lit< tt) (lit≤ tt) n.third f third hf in
      let h : Within 2 (n.half -ᵈ n.third *ᵈ f) = less 1 0 1 (lit< tt) (lit≤ tt) (lit≤ tt) n.half (n.third *ᵈ f) half tf in
      let rest = f *ᵈ f *ᵈ (n.half -ᵈ n.third *ᵈ f) in
      let r : Within 4 rest = times 2 2 4 (lit< tt) (lit≤ tt) (f *ᵈ f) (n.half -ᵈ n.third *ᵈ f) ff h in
      let a : Within 14 (rest -ᵈ k *ᵈ n.ln_2_low) =
      less 13 4 13 (lit< tt) (lit≤ tt) (lit≤ tt) rest (k *ᵈ n.ln_2_low) r lower in
      let b : Within 15 (rest -ᵈ k *ᵈ n.ln_2_low -ᵈ f) =
      less 14 14 1 (lit< tt) (lit≤ tt) (lit≤ tt) (rest -ᵈ k *ᵈ n.ln_2_low) f a hf in
      less 23 13 15 (lit< tt) (lit≤ tt) (lit≤ tt) (k *ᵈ n.ln_2_high) (rest -ᵈ k *ᵈ n.ln_2_low -ᵈ f) high b

  module _ (least : AtLeastOne (n.two_double +ᵈ f)) where
    hs : Within 1 (f /ᵈ (n.two_double +ᵈ f))
    hs = over 1 (lit< tt) f (n.two_double +ᵈ f) hf least

    mid : Within 24 (logarithm_mid k f)
    mid =
        let s = f /ᵈ (n.two_double +ᵈ f) in
        let h = n.half *ᵈ f *ᵈ f in
        let p : Within 1 (n.half *ᵈ f) = times 0 1 1 (lit< tt) (lit≤ tt) n.half f half hf in
        let hh : Within 2 h = times 1 1 2 (lit< tt) (lit≤ tt) (n.half *ᵈ f) f p hf in
        let q : Within 19 (h +ᵈ series_of s) =
        plus 18 2 18 (lit< tt) (lit≤ tt) (lit≤ tt) h (series_of s) hh (series s hs) in
        let t : Within 20 (s *ᵈ (h +ᵈ series_of s)) = times 1 19 20 (lit< tt) (lit≤ tt) s (h +ᵈ series_of s) hs q in
        let a = s *ᵈ (h +ᵈ series_of s) +ᵈ k *ᵈ n.ln_2_low in
        let u : Within 21 a =
        plus 20 20 13 (lit< tt) (lit≤ tt) (lit≤ tt) (s *ᵈ (h +ᵈ series_of s)) (k *ᵈ n.ln_2_low) t lower in
        let v : Within 22 (h -ᵈ a) = less 21 2 21 (lit< tt) (lit≤ tt) (lit≤ tt) h a hh u in
        let x : Within 23 (h -ᵈ a -ᵈ f) = less 22 22 1 (lit< tt) (lit≤ tt) (lit≤ tt) (h -ᵈ a) f v hf in
        less 23 13 23 (lit< tt) (lit≤ tt) (lit≤ tt) (k *ᵈ n.ln_2_high) (h -ᵈ a -ᵈ f) high x

    far : Within 24 (logarithm_far k f)
    far =
        let s = f /ᵈ (n.two_double +ᵈ f) in
        let q : Within 19 (f -ᵈ series_of s) = less 18 1 18 (lit< tt) (lit≤ tt) (lit≤ tt) f (series_of s) hf (series s hs) in
        let t : Within 20 (s *ᵈ (f -ᵈ series_of s)) = times 1 19 20 (lit< tt) (lit≤ tt) s (f -ᵈ series_of s) hs q in
        let a = s *ᵈ (f -ᵈ series_of s) -ᵈ k *ᵈ n.ln_2_low in
        let u : Within 21 a =
        less 20 20 13 (lit< tt) (lit≤ tt) (lit≤ tt) (s *ᵈ (f -ᵈ series_of s)) (k *ᵈ n.ln_2_low) t lower in
        let v : Within 22 (a -ᵈ f) = less 21 21 1 (lit< tt) (lit≤ tt) (lit≤ tt) a f u hf in
        less 23 13 22 (lit< tt) (lit≤ tt) (lit≤ tt) (k *ᵈ n.ln_2_high) (a -ᵈ f) high v

    at : (upper : ℕ) → Within 24 (logarithm_at k f upper)
    at upper = choose (upper == 0 || nat_le n.first_near_two upper)
        (nat_le n.first_in_middle upper && nat_le upper n.last_in_middle)
      where
        choose : (a b : Bool) → Within 24 (cond a (logarithm_near k f) (cond b (logarithm_mid k f) (logarithm_far k f)))
        choose true b = near
        choose false true = mid
        choose false false = far

-- a value by its fraction
valued : (k : ℕ) (x : Float) (a c : ℕ) → HasValue x false a c → 0 < c → a ≤ 2 ^ k * c → Signed false x × Within k x
valued k nan a c v some small = absurd v
valued k (inf t) a c v some small = absurd v
valued k (fin t m e) a c v some small = (
  v.0,
  le_of_mul-le-mul_right
      (le_trans (le_of_eq v.1) (le_trans (mul-le-mul_right (down e) small) (le_of_eq (mul_right_comm (2 ^ k) c (down e))))) some,
)

abbrev Small : Float → Type 0
Small x = Signed false x × Within 1 x

-- a double whose bits are below those of 2
of_field : (x t : ℕ) → x ≤ 1023 → t < 2 ^ 52 → Small (of_fields binary64 false x t)
unfolding of_fields
of_field zero t low digits =
    valued 1 (odd 53 false t 0 1074) (t * 2 ^ 0) (2 ^ 1074) (odd_sign 53 false t 0 1074) (pow_pos 1074)
    (le_trans (le_of_eq (mul-one t)) (le_trans (le_of_lt digits) (lit≤ tt)))
of_field (suc x) t low digits =
    subst (λ b. Small (cond b (cond (eqb t 0) (inf false) nan) (odd 53 false (2 ^ 52 + t) x 1074)))
    (sym (ne_eqb (suc x) 2047 (λ e. omega arith)))
    (valued 1 (odd 53 false (2 ^ 52 + t) x 1074) ((2 ^ 52 + t) * 2 ^ x) (2 ^ 1074) (odd_sign 53 false (2 ^ 52 + t) x 1074)
    (pow_pos 1074)
    (let digits' : 2 ^ 52 + t ≤ 2 ^ 53 = omega arith in
    le_trans (mul-le-mul digits' (pow_mono {j = 1022} (omega arith))) (lit≤ tt)))

double_small : (b : ℕ) → b < 0x4000_0000_0000_0000 → Small (n.double b)
unfolding of_bits
double_small b small =
    let field : b / 2 ^ 52 < 1024 = (div-lt_iff_lt-mul (pow_pos 52)).1 small in
    let positive : b < 2 ^ 63 = omega arith in
    rw (lt-leb (2 ^ 63) b positive, mod-eq_of_lt positive) (of_field (b / 2 ^ 52) (b % 2 ^ 52) (omega arith)
    (mod-lt b (pow_pos 52)))

-- at least -1
AboveMinusOne : Float → Type 0
AboveMinusOne nan = ⊥
AboveMinusOne (inf s) = ⊥
AboveMinusOne (fin true m e) = m * up e ≤ down e
AboveMinusOne (fin false m e) = Unit {0}

two_plus : (f : Float) → Within 1 f → AboveMinusOne f → AtLeastOne (add binary64 (fin false 1 (pos 1)) f)
unfolding add sum AboveMinusOne
two_plus nan h above = absurd h
two_plus (inf s) h above = absurd h
two_plus (fin true m e) h above =
    subst (λ b. AtLeastOne (cond b (round binary64 true (m * up e * 1 - 2 * down e) (1 * down e))
    (round binary64 false (2 * down e - m * up e * 1) (1 * down e))))
    (sym (le-ltb (2 * down e) (m * up e * 1) (omega (arith, above))))
    (at_least (2 * down e - m * up e * 1) (1 * down e) 1 (lit< tt) (omega (arith, down_pos e)) (omega (arith, above)) (omega arith))
two_plus (fin false m e) h above =
    at_least (2 * down e + m * up e * 1) (1 * down e) 2 (lit< tt) (omega (arith, down_pos e)) (omega arith) (omega (arith, h))

abbrev Near : Float → Type 0
Near f = Within 1 f × AboveMinusOne f

of_nonneg : (x : Float) → Signed false x → Within 1 x → Near x
unfolding AboveMinusOne
of_nonneg nan s h = absurd h
of_nonneg (inf t) s h = absurd h
of_nonneg (fin true m e) s h = absurd (true≢false s)
of_nonneg (fin false m e) s h = (h, tt)

of_small : (x : Float) → Signed false x → Within 0 x → Near (neg x)
unfolding AboveMinusOne neg
of_small nan s h = absurd h
of_small (inf t) s h = absurd h
of_small (fin true m e) s h = absurd (true≢false s)
of_small (fin false m e) s h = (omega (arith, h), omega (arith, h))

-- a double below 2 less 1
less_one : (d : Float) → Signed false d → Within 1 d → Near (sub binary64 d (fin false 1 (pos 0)))
unfolding sub add neg sum
less_one nan s h = absurd h
less_one (inf t) s h = absurd h
less_one (fin true m e) s h = absurd (true≢false s)
less_one (fin false m e) s h =
    let C : 0 < down e * 1 = omega (arith, down_pos e) in
    elim (ltb (m * up e * 1) (1 * down e)) as (λ b. ltb (m * up e * 1) (1 * down e) ≡ b
    → Near (cond b (round binary64 true (1 * down e - m * up e * 1) (down e * 1))
    (round binary64 false (m * up e * 1 - 1 * down e) (down e * 1)))) [
      | true ↦ λ _. subst Near (sym (round_turned (1 * down e - m * up e * 1) (down e * 1)))
          (of_small (round binary64 false (1 * down e - m * up e * 1) (down e * 1))
          (round_signed (1 * down e - m * up e * 1) (down e * 1))
          (saturated (2 ^ 0) 0 (two_to 0 (lit< tt)) false (1 * down e - m * up e * 1) (down e * 1) C (omega arith)))
      | false ↦ λ _. of_nonneg (round binary64 false (m * up e * 1 - 1 * down e) (down e * 1))
          (round_signed (m * up e * 1 - 1 * down e) (down e * 1))
          (saturated (2 ^ 1) 1 (two_to 1 (lit< tt)) false (m * up e * 1 - 1 * down e) (down e * 1) C (omega (arith, h)))
    ] refl

fraction_near : (b : ℕ) → b < 0x4000_0000_0000_0000 → Near (n.double b -ᵈ n.one_double)
fraction_near b small =
    let d = double_small b small in
    subst (λ o. Near (n.double b -ᵈ o)) (sym one_is) (less_one (n.double b) d.0 d.1)

-- the logarithm of a double of these bits
of_bits_within : (b : ℕ) → b < 2 ^ 64 → Within 24 (logarithm_of_bits b)
of_bits_within b small =
    let r = mod-lt b (pow_pos 52) in
    let exponent : b / 2 ^ 52 < 2 ^ 12 = shr_lt 12 52 small in
    let power : Within 12 (whole (b / 2 ^ 52)) = whole_within (b / 2 ^ 52) 12 (lit< tt) (le_of_lt exponent) in
    let upper = b % 2 ^ 52 / 2 ^ 32 in
    let f = n.double (b % 2 ^ 52 + n.bits_of_one) -ᵈ n.one_double in
    let g = n.double (b % 2 ^ 52 + n.bits_of_half) -ᵈ n.one_double in
    let p : Near f = fraction_near (b % 2 ^ 52 + n.bits_of_one) (omega arith) in
    let q : Near g = fraction_near (b % 2 ^ 52 + n.bits_of_half) (omega arith) in
    let k = whole (b / 2 ^ 52) -ᵈ n.exponent_of_one in
    let l = whole (b / 2 ^ 52) -ᵈ n.exponent_of_half in
    let hk : Within 13 k = less 12 12 10 (lit< tt) (lit≤ tt) (lit≤ tt) (whole (b / 2 ^ 52)) n.exponent_of_one power exponent_one in
    let hl : Within 13 l = less 12 12 10 (lit< tt) (lit≤ tt) (lit≤ tt) (whole (b / 2 ^ 52)) n.exponent_of_half power exponent_half in
    choose (nat_lt upper n.first_halved) (logarithm_at k f upper) (logarithm_at l g upper)
    (at k f hk p.0 (least f p) upper) (at l g hl q.0 (least g q) upper)
  where
    least : (f : Float) → Near f → AtLeastOne (n.two_double +ᵈ f)
    least f h = subst (λ t. AtLeastOne (t +ᵈ f)) (sym two_is) (two_plus f h.0 h.1)

    choose : (c : Bool) (x y : Float) → Within 24 x → Within 24 y → Within 24 (cond c x y)
    choose true x y a b = a
    choose false x y a b = b

-- finite and above 0
abbrev pub IsPositive : Float → Type 0
IsPositive nan = ⊥
IsPositive (inf s) = ⊥
IsPositive (fin s m e) = (s ≡ false) × (0 < m)

no_nan : (x : Float) → IsPositive x → is_nan x ≡ false
unfolding is_nan
no_nan nan h = absurd h
no_nan (inf s) h = absurd h
no_nan (fin s m e) h = refl

not_zero : (x : Float) → IsPositive x → eq x (fin false 0 (pos 0)) ≡ false
unfolding eq
not_zero nan h = absurd h
not_zero (inf s) h = absurd h
not_zero (fin s m e) h =
    ap (λ b. b && (beq s false || eqb (m * up e * 1) 0)) (ne_eqb (m * up e * 1) (0 * 1 * down e)
    (λ same. lt_irrefl 0 (lt_of_lt_of_le (mul-pos h.1 (up_pos e)) (le_of_eq (sym (mul-one (m * up e)) ∙ same ∙ zero-mul (down e))))))

pub logarithm_within : (x : Float) → IsPositive x → T (fits binary64 x) → Within 24 (logarithm_of x)
logarithm_within x positive fit =
    subst (λ b. Within 24 (cond b x (cond (eq x n.zero_double) n.minus_infinity (logarithm_of_bits (to_bits binary64 x)))))
    (sym (no_nan x positive))
    (subst (λ b. Within 24 (cond b n.minus_infinity (logarithm_of_bits (to_bits binary64 x))))
    (sym (ap (eq x) zero_is ∙ not_zero x positive))
    (of_bits_within (to_bits binary64 x) (to_bits-lt binary64 x fit)))
