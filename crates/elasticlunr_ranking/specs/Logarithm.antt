-- The natural logarithm of a double, as fdlibm computes it: to less than a unit in the last place.
use Rattle.std.specs.Prelude.{ℕ, ◌+◌, ◌/◌, ◌%◌, cond, ◌||◌, ◌&&◌, ◌==◌, nat_lt, nat_le}
use Rattle.std.specs.Prelude.{is_nan, to_bits}
use Rattle.std.specs.Float.{Float, binary64}
use Rattle.std.specs.Float.Ieee.{eq}
use Rattle.elasticlunr_ranking.specs.Doubles.{◌+ᵈ◌, ◌-ᵈ◌, ◌*ᵈ◌, ◌/ᵈ◌, whole}
use Rattle.elasticlunr_ranking.specs.Numbers as n

-- With s = f / (2 + f) the logarithm of 1 + f is 2 s + 2 s³ / 3 + 2 s⁵ / 5 and so on; this is what
-- follows 2 s, over s. The coefficients serve all f for which 1 + f lies between the roots of 1 / 2
-- and of 2.
abbrev pub series_of : Float → Float
series_of s =
    let z = s *ᵈ s in
    let w = z *ᵈ z in
    z *ᵈ (n.coefficient_1 +ᵈ w *ᵈ (n.coefficient_3 +ᵈ w *ᵈ (n.coefficient_5
    +ᵈ w *ᵈ n.coefficient_7)))
    +ᵈ w *ᵈ (n.coefficient_2 +ᵈ w *ᵈ (n.coefficient_4 +ᵈ w *ᵈ n.coefficient_6))

-- The logarithm of 2 ^ k times 1 + f, with its parts from the small ones to the great ones. Where f
-- is small the first parts of its own series are all that counts; in the middle f less half its
-- square is what is rounded; and else f.
module _ (k f : Float) where
  abbrev pub logarithm_near : Float
  logarithm_near =
      let rest = f *ᵈ f *ᵈ (n.half -ᵈ n.third *ᵈ f) in
      k *ᵈ n.ln_2_high -ᵈ (rest -ᵈ k *ᵈ n.ln_2_low -ᵈ f)

  abbrev pub logarithm_mid : Float
  logarithm_mid =
      let s = f /ᵈ (n.two_double +ᵈ f) in
      let half = n.half *ᵈ f *ᵈ f in
      k *ᵈ n.ln_2_high -ᵈ (half -ᵈ (s *ᵈ (half +ᵈ series_of s) +ᵈ k *ᵈ n.ln_2_low) -ᵈ f)

  abbrev pub logarithm_far : Float
  logarithm_far =
      let s = f /ᵈ (n.two_double +ᵈ f) in
      k *ᵈ n.ln_2_high -ᵈ (s *ᵈ (f -ᵈ series_of s) -ᵈ k *ᵈ n.ln_2_low -ᵈ f)

  -- the one that counts where these are the upper 20 bits of the fraction
  abbrev pub logarithm_at : ℕ → Float
  logarithm_at high =
      cond (high == 0 || nat_le n.first_near_two high) logarithm_near
      (cond (nat_le n.first_in_middle high && nat_le high n.last_in_middle) logarithm_mid
      logarithm_far)

-- the logarithm of the number with these bits, which is 2 ^ k times 1 + f
abbrev pub logarithm_of_bits : ℕ → Float
logarithm_of_bits bits =
    let fraction = bits % n.fractions in
    let power = whole (bits / n.fractions) in
    let high = fraction / n.lower_fractions in
    cond (nat_lt high n.first_halved)
    (logarithm_at (power -ᵈ n.exponent_of_one) (n.double (fraction + n.bits_of_one) -ᵈ n.one_double)
    high)
    (logarithm_at (power -ᵈ n.exponent_of_half) (n.double (fraction + n.bits_of_half)
    -ᵈ n.one_double) high)

-- of 0 it is minus infinity, and of what is no number no number
abbrev pub logarithm_of : Float → Float
logarithm_of x = cond (is_nan x) x
    (cond (eq x n.zero_double) n.minus_infinity (logarithm_of_bits (to_bits binary64 x)))
