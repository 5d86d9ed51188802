-- Doubles that are finite, with bounds of their size.
use Rattle.std.proofs.Common.{◌≡◌, ◌<◌, ◌≤◌, ◌+◌, ◌-◌, ◌*◌, ◌^◌, ℕ, zero, suc, Bool, true, false, cond}
use Rattle.std.proofs.Common.{refl, sym, ap, subst, ◌∙◌, arith, pos}
use Rattle.std.specs.Prelude.{T, ◌&&◌, ◌||◌}
use Rattle.std.specs.Float.{Float, nan, inf, fin, binary64}
use native.Mathlib.Nat.{le_trans, le_of_eq, mul-le-mul, mul-le-mul_right, le_of_mul-le-mul_right, mul-mul-mul_comm, mul_comm, mul_right_comm, mul_assoc, mul-pos, one-mul, mul-one, pow-suc, zero-mul, not-le_of_lt, lt_of_lt_of_le}
use lib.Dec.{eqb, ltb, eqb→eq, ltb→lt, lit<}
use lib.Pow.{pow-add, pow_mono, pow-lt}
use lib.Ieee.{add, down, div, is_nan, le, low, mul, neg, odd, of_int, round, sub, sum, units, unlike, up}
use mathlib.Core.Bool.{beq}
use lib.Ieee.Exact.{HasValue, round_exact}
use lib.Ieee.Fits.{down_pos, round_is}
use lib.Ieee.Order.{drop, kept, round_mono}

-- finite, and at most 2 ^ k in size
abbrev pub Within : ℕ → Float → Type 0
Within k nan = ⊥
Within k (inf s) = ⊥
Within k (fin s m e) = m * up e ≤ 2 ^ k * down e

-- finite, and at least 1
abbrev pub AtLeastOne : Float → Type 0
AtLeastOne nan = ⊥
AtLeastOne (inf s) = ⊥
AtLeastOne (fin s m e) = (s ≡ false) × (down e ≤ m * up e)

-- of this sign
abbrev pub Signed : Bool → Float → Type 0
Signed s nan = ⊥
Signed s (inf t) = t ≡ s
Signed s (fin t m e) = t ≡ s

pub number : (k : ℕ) (x : Float) → Within k x → is_nan x ≡ false
unfolding is_nan
number k nan h = absurd h
number k (inf s) h = absurd h
number k (fin s m e) h = refl

pub wider : (j k : ℕ) (x : Float) → j ≤ k → Within j x → Within k x
wider j k nan small h = h
wider j k (inf s) small h = h
wider j k (fin s m e) small h = le_trans h (mul-le-mul_right (down e) (pow_mono small))

turned : (k : ℕ) (x : Float) → Within k x → Within k (neg x)
unfolding neg
turned k nan h = h
turned k (inf s) h = h
turned k (fin s m e) h = h

-- `round` of both signs
units_turned : (q k : ℕ) → units binary64 true q k ≡ neg (units binary64 false q k)
unfolding units neg odd
units_turned zero k = go (ltb (0 * 2 ^ k) (2 ^ 2098))
  where
    go : (b : Bool) → cond b (fin true 0 (pos 0)) (inf true) ≡ neg (cond b (fin false 0 (pos 0)) (inf false))
    go true = refl
    go false = refl
units_turned (suc q) k = elim (ltb (suc q * 2 ^ k) (2 ^ 2098)) as (λ b. cond b (odd 54 true (suc q) k 1074) (inf true)
    ≡ neg (cond b (odd 54 false (suc q) k 1074) (inf false))) [ true ↦ refl | false ↦ refl ]

units_signed : (q k : ℕ) → Signed false (units binary64 false q k)
unfolding units odd
units_signed zero k = elim (ltb (0 * 2 ^ k) (2 ^ 2098)) as (λ b. Signed false (cond b (odd 54 false 0 k 1074) (inf false))) [
  | true ↦ refl
  | false ↦ refl
]
units_signed (suc q) k = elim (ltb (suc q * 2 ^ k) (2 ^ 2098)) as (λ b. Signed false (cond b (odd 54 false (suc q) k 1074) (inf false))) [
  | true ↦ refl
  | false ↦ refl
]

pub round_turned : (a c : ℕ) → round binary64 true a c ≡ neg (round binary64 false a c)
round_turned a c = round_is binary64 true a c
    ∙ units_turned (kept 53 (a * 2 ^ 1074) c) (drop 53 (a * 2 ^ 1074) c)
    ∙ ap neg (sym (round_is binary64 false a c))

pub round_signed : (a c : ℕ) → Signed false (round binary64 false a c)
round_signed a c = subst (Signed false) (sym (round_is binary64 false a c))
    (units_signed (kept 53 (a * 2 ^ 1074) c) (drop 53 (a * 2 ^ 1074) c))

pub from_le : (a b : ℕ) (p : Bool) → T (ltb a b || (eqb a b && p)) → a ≤ b
from_le a b p h = elim (ltb a b) as (λ t. ltb a b ≡ t → T (t || (eqb a b && p)) → a ≤ b) [
  | true ↦ λ is _. let lt : a < b = ltb→lt a b (subst T (sym is) tt) in omega arith
  | false ↦ λ _ h. elim (eqb a b) as (λ t. eqb a b ≡ t → T (t && p) → a ≤ b) [
    | true ↦ λ is _. let eq : a ≡ b = eqb→eq a b (subst T (sym is) tt) in omega arith
    | false ↦ λ _ h. absurd h
  ] refl h
] refl h

-- the order of two values that are not negative
pub order : (x y : Float) (a c : ℕ) → Signed false x → HasValue y false a c → 0 < c → T (le x y)
    → (k : ℕ) → a ≤ 2 ^ k * c → Within k x
unfolding le
order nan y a c s v some h k small = absurd s
order (inf t) nan a c s v some h k small = absurd v
order (inf t) (inf u) a c s v some h k small = absurd v
order (inf t) (fin u n d) a c s v some h k small = subst (λ t. T (t || false)) s h
order (fin t m e) nan a c s v some h k small = absurd v
order (fin t m e) (inf u) a c s v some h k small = absurd v
order (fin t m e) (fin u n d) a c s v some h k small =
    let h' : T (ltb (m * up e * down d) (n * up d * down e) || (eqb (m * up e * down d) (n * up d * down e) && true)) =
    (let f : (t u : Bool) → t ≡ false → u ≡ false → T (le (fin t m e) (fin u n d)) → T (le (fin false m e) (fin false n d)) =
    λ t u p q h. subst (λ t. T (le (fin t m e) (fin false n d))) p (subst (λ u. T (le (fin t m e) (fin u n d))) q h) in
    f t u s v.0 h) in
    let below : m * up e * down d ≤ n * up d * down e = from_le (m * up e * down d) (n * up d * down e) true h' in
    let D = down_pos d in
    cross (m * up e) (down e) (n * up d) (down d) a c (2 ^ k) below v.1 small D some
  where
    -- x / e ≤ y / d = a / c ≤ p
    cross : (x e y d a c p : ℕ) → x * d ≤ y * e → y * c ≡ a * d → a ≤ p * c → 0 < d → 0 < c → x ≤ p * e
    cross x e y d a c p h v small D C =
        le_of_mul-le-mul_right (le_of_mul-le-mul_right
        (le_trans (mul-le-mul_right c h) (le_trans (le_of_eq (mul_right_comm y e c ∙ ap (λ z. z * e) v))
        (le_trans (mul-le-mul_right e (mul-le-mul_right d small))
        (le_of_eq (mul_right_comm (p * c) d e ∙ ap (λ z. z * d) (mul_right_comm p c e) ∙ mul_right_comm (p * e) c d))))) C) D

one_pos : 0 < 1
one_pos = lit< tt

-- 2 ^ k is a double
pub two_to : (k : ℕ) → k < 1000 → HasValue (round binary64 false (2 ^ k) 1) false (2 ^ k) 1
two_to k small =
    let fine : 1 * 2 ^ (k + 1074) < 2 ^ 2098 =
    subst (λ z. z < 2 ^ 2098) (sym (one-mul (2 ^ (k + 1074)))) (pow-lt {i = k + 1074} {j = 2098} (omega arith)) in
    round_exact binary64 false (2 ^ k) 1 1 (k + 1074) one_pos (lit< tt) fine
    (sym (pow-add 2 k 1074) ∙ sym (one-mul (2 ^ (k + 1074))) ∙ sym (mul-one (1 * 2 ^ (k + 1074))))

-- what is rounded is at most 2 ^ k in size, where the double nearest to t is that
below : (t k : ℕ) → HasValue (round binary64 false t 1) false (2 ^ k) 1 → (a c : ℕ) → 0 < c → a ≤ t * c
    → Within k (round binary64 false a c)
below t k nearest a c some small =
    order (round binary64 false a c) (round binary64 false t 1) (2 ^ k) 1 (round_signed a c) nearest one_pos
    (round_mono binary64 a c t 1 some one_pos (le_trans (le_of_eq (mul-one a)) small)) k (le_of_eq (sym (mul-one (2 ^ k))))

pub saturated : (t k : ℕ) → HasValue (round binary64 false t 1) false (2 ^ k) 1 → (s : Bool) (a c : ℕ) → 0 < c
    → a ≤ t * c → Within k (round binary64 s a c)
saturated t k nearest false a c some small = below t k nearest a c some small
saturated t k nearest true a c some small =
    subst (Within k) (sym (round_turned a c)) (turned k (round binary64 false a c) (below t k nearest a c some small))

module _ (t k : ℕ) (nearest : HasValue (round binary64 false t 1) false (2 ^ k) 1) where
  sum_within : (s u : Bool) (a b c : ℕ) → 0 < c → a + b ≤ t * c → Within k (sum binary64 s a u b c)
  unfolding sum
  sum_within s u a b c some small = elim (beq s u) as (λ x. Within k (cond x (round binary64 s (a + b) c)
      (cond (ltb a b) (round binary64 u (b - a) c) (round binary64 (s && ltb b a) (a - b) c)))) [
        | true ↦ saturated t k nearest s (a + b) c some small
        | false ↦ elim (ltb a b) as (λ x. Within k (cond x (round binary64 u (b - a) c)
            (round binary64 (s && ltb b a) (a - b) c))) [
              | true ↦ saturated t k nearest u (b - a) c some (le_trans (omega arith) small)
              | false ↦ saturated t k nearest (s && ltb b a) (a - b) c some (le_trans (omega arith) small)
            ]
      ]

  pub add_within : (i j : ℕ) → 2 ^ i + 2 ^ j ≤ t → (x y : Float) → Within i x → Within j y
      → Within k (add binary64 x y)
  unfolding add
  add_within i j room nan y a b = absurd a
  add_within i j room (inf s) y a b = absurd a
  add_within i j room (fin s m e) nan a b = absurd b
  add_within i j room (fin s m e) (inf u) a b = absurd b
  add_within i j room (fin s m e) (fin u n d) a b =
      sum_within s u (m * up e * down d) (n * up d * down e) (down e * down d) (mul-pos (down_pos e) (down_pos d))
      (sums (m * up e) (n * up d) (down e) (down d) (2 ^ i) (2 ^ j) a b room)
    where
      sums : (A B E D p q : ℕ) → A ≤ p * E → B ≤ q * D → p + q ≤ t → A * D + B * E ≤ t * (E * D)
      sums A B E D p q a b room =
          omega (arith, mul-le-mul_right D a, mul-le-mul_right E b, mul-le-mul_right (E * D) room)

-- sums, differences, products and quotients
pub plus : (k i j : ℕ) → k < 999 → i ≤ k → j ≤ k → (x y : Float) → Within i x → Within j y
    → Within (suc k) (add binary64 x y)
plus k i j small low high x y a b =
    add_within (2 ^ suc k) (suc k) (two_to (suc k) (omega arith)) k k
    (le_of_eq (twice ∙ sym (pow-suc 2 k))) x y (wider i k x low a) (wider j k y high b)
  where
    twice : 2 ^ k + 2 ^ k ≡ 2 ^ k * 2
    twice = omega arith

pub less : (k i j : ℕ) → k < 999 → i ≤ k → j ≤ k → (x y : Float) → Within i x → Within j y
    → Within (suc k) (sub binary64 x y)
unfolding sub
less k i j small low high x y a b = plus k i j small low high x (neg y) a (turned j y b)

pub times : (i j k : ℕ) → k < 1000 → i + j ≤ k → (x y : Float) → Within i x → Within j y
    → Within k (mul binary64 x y)
unfolding mul
times i j k small room nan y a b = absurd a
times i j k small room (inf s) y a b = absurd a
times i j k small room (fin s m e) nan a b = absurd b
times i j k small room (fin s m e) (inf u) a b = absurd b
times i j k small room (fin s m e) (fin u n d) a b =
    saturated (2 ^ k) k (two_to k small) (unlike s u) (m * up e * (n * up d)) (down e * down d)
    (mul-pos (down_pos e) (down_pos d))
    (le_trans (mul-le-mul a b) (le_trans (le_of_eq (mul-mul-mul_comm (2 ^ i) (down e) (2 ^ j) (down d)))
    (mul-le-mul_right (down e * down d) (le_trans (le_of_eq (sym (pow-add 2 i j))) (pow_mono room)))))

not_zero : (n u d : ℕ) → 0 < d → d ≤ n * u → T (eqb n 0) → ⊥
not_zero n u d some h none =
    not-le_of_lt some (le_trans h (le_of_eq (ap (λ n. n * u) (eqb→eq n 0 none) ∙ zero-mul u)))

pub over : (k : ℕ) → k < 1000 → (x y : Float) → Within k x → AtLeastOne y → Within k (div binary64 x y)
unfolding div
over k small nan y a b = absurd a
over k small (inf s) y a b = absurd a
over k small (fin s m e) nan a b = absurd b
over k small (fin s m e) (inf u) a b = absurd b
over k small (fin s m e) (fin u n d) a b =
    elim (eqb n 0) as (λ z. (T z → ⊥) → Within k (cond z (cond (eqb m 0) nan (inf (unlike s u)))
    (round binary64 (unlike s u) (m * up e * down d) (n * up d * down e)))) [
      | true ↦ λ no. absurd (no tt)
      | false ↦ λ _. saturated (2 ^ k) k (two_to k small) (unlike s u) (m * up e * down d) (n * up d * down e)
          (mul-pos (lt_of_lt_of_le (down_pos d) b.1) (down_pos e))
          (le_trans (mul-le-mul a b.1) (le_of_eq (mul_assoc (2 ^ k) (down e) (n * up d)
          ∙ ap (λ z. 2 ^ k * z) (mul_comm (down e) (n * up d)))))
    ] (not_zero n (up d) (down d) (down_pos d) b.1)

-- what is at least 1 is so after rounding
least_after : (x y : Float) (k : ℕ) → HasValue x false 1 1 → Signed false y → Within k y → T (le x y) → AtLeastOne y
unfolding le
least_after nan y k v s small h = absurd v
least_after (inf t) y k v s small h = absurd v
least_after (fin t m e) nan k v s small h = absurd s
least_after (fin t m e) (inf u) k v s small h = absurd small
least_after (fin t m e) (fin u n d) k v s small h = (
  s,
  cross (m * up e) (down e) (n * up d) (down d)
      (from_le (m * up e * down d) (n * up d * down e) true (both t u v.0 s h)) v.1 (down_pos e),
)
  where
    both : (t u : Bool) → t ≡ false → u ≡ false → T (le (fin t m e) (fin u n d)) → T (le (fin false m e) (fin false n d))
    both t u p q h = subst (λ t. T (le (fin t m e) (fin false n d))) p (subst (λ u. T (le (fin t m e) (fin u n d))) q h)

    cross : (x e y d : ℕ) → x * d ≤ y * e → x * 1 ≡ 1 * e → 0 < e → d ≤ y
    cross x e y d h v some =
        let same : x ≡ e = sym (mul-one x) ∙ v ∙ one-mul e in
        le_of_mul-le-mul_right (le_trans (le_of_eq (mul_comm d e ∙ ap (λ z. z * d) (sym same))) h) some

pub at_least : (a c k : ℕ) → k < 1000 → 0 < c → c ≤ a → a ≤ 2 ^ k * c → AtLeastOne (round binary64 false a c)
at_least a c k small some least most =
    least_after (round binary64 false 1 1) (round binary64 false a c) k (two_to 0 (lit< tt)) (round_signed a c)
    (saturated (2 ^ k) k (two_to k small) false a c some most)
    (round_mono binary64 1 1 a c one_pos some (le_trans (le_of_eq (one-mul c)) (le_trans least (le_of_eq (sym (mul-one a))))))

-- whole numbers
pub whole_within : (n k : ℕ) → k < 1000 → n ≤ 2 ^ k → Within k (of_int binary64 (pos n))
unfolding of_int
whole_within n k small h =
    saturated (2 ^ k) k (two_to k small) false n 1 one_pos (le_trans h (le_of_eq (sym (mul-one (2 ^ k)))))

pub whole_signed : (n : ℕ) → Signed false (of_int binary64 (pos n))
unfolding of_int
whole_signed n = round_signed n 1

pub whole_least : (n k : ℕ) → k < 1000 → 0 < n → n ≤ 2 ^ k → AtLeastOne (of_int binary64 (pos n))
unfolding of_int
whole_least n k small some h = at_least n 1 k small one_pos (omega arith) (le_trans h (le_of_eq (sym (mul-one (2 ^ k)))))

-- a sum of what is not negative and what is at least 1
pub plus_least : (k i j : ℕ) → k < 999 → i ≤ k → j ≤ k → (x y : Float) → Signed false x → Within i x → AtLeastOne y
    → Within j y → AtLeastOne (add binary64 x y)
unfolding add sum
plus_least k i j small low high nan y s a least b = absurd s
plus_least k i j small low high (inf t) y s a least b = absurd a
plus_least k i j small low high (fin t m e) nan s a least b = absurd b
plus_least k i j small low high (fin t m e) (inf u) s a least b = absurd b
plus_least k i j small low high (fin t m e) (fin u n d) s a least b =
    subst (λ t. AtLeastOne (sum binary64 t (m * up e * down d) u (n * up d * down e) (down e * down d))) (sym s)
    (subst (λ u. AtLeastOne (sum binary64 false (m * up e * down d) u (n * up d * down e) (down e * down d))) (sym least.0)
    (at_least (m * up e * down d + n * up d * down e) (down e * down d) (suc k) (omega arith)
    (mul-pos (down_pos e) (down_pos d)) (enough (m * up e * down d) (n * up d) (down d) (down e) least.1)
    (sums (m * up e) (n * up d) (down e) (down d) (2 ^ k) (le_trans a (mul-le-mul_right (down e) (pow_mono low)))
    (le_trans b (mul-le-mul_right (down d) (pow_mono high))) (2 ^ suc k) (pow-suc 2 k))))
  where
    enough : (z y d e : ℕ) → d ≤ y → e * d ≤ z + y * e
    enough z y d e h = le_trans (le_of_eq (mul_comm e d)) (le_trans (mul-le-mul_right e h) (omega arith))

    sums : (A B E D p : ℕ) → A ≤ p * E → B ≤ p * D → (t : ℕ) → t ≡ p * 2 → A * D + B * E ≤ t * (E * D)
    sums A B E D p a b t e = le_trans (omega (arith, mul-le-mul_right D a, mul-le-mul_right E b))
        (le_of_eq (sym (ap (λ t. t * (E * D)) e)))
