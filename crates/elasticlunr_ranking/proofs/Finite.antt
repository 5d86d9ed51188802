-- Scores are finite: each part of a score has a bound.
use Rattle.std.proofs.Common.{◌≡◌, ◌≢◌, ◌<◌, ◌≤◌, ◌+◌, ◌*◌, ◌/◌, ◌^◌, ◌==◌, ℕ, zero, suc, Bool, true, false, cond, not}
use Rattle.std.proofs.Common.{refl, sym, ap, subst, ◌∙◌, arith, pos, List, [], ◌∷◌, length, map, All, Option, Some, None, option_map, is_some, inl, inr, get_or}
use Rattle.std.specs.Prelude.{T, ◌||◌, IsTrue, count_by, unwrap_or}
use Rattle.std.specs.FinMap as finite
use Rattle.std.specs.Float.{Float, nan, inf, fin, binary64, float_is_finite}
use Rattle.std.specs.List.{fold}
use native.Mathlib.Nat.{le_of_lt, le_trans, le_of_eq, mul-le-mul, mul-le-mul_right, mul_comm, mul_right_comm, mul_assoc, mul-pos, one-mul, mul-one, zero-mul, lt_of_lt_of_le, le_refl, le-div_iff_mul-le, lt_irrefl}
use mathlib.Core.Bool.{true≢false}
use borrow.Author.Tests.{ne_eqb}
use Rattle.std.proofs.Math.Dec.{eqb-suc-zero}
use Rattle.std.proofs.lemmas.Bool.{cases_lt}
use Rattle.std.proofs.lemmas.Cmp.{nat_list_eq_equiv}
use Rattle.std.proofs.lemmas.List.{get_or-map, length-map}
use Rattle.std.proofs.lemmas.List.Elements.{All-cons, All-head, All-map, All-nil, All-tail}
use Rattle.std.proofs.lemmas.List.Sorted.{All-permutation}
use Rattle.std.proofs.lemmas.List.Sums.{count_by-le-length}
use Rattle.std.proofs.lemmas.Slice.Eq.{bytes_eq-Decides}
use Rattle.std.specs.FinMap.Entries.{below_all, find, is_sorted}
use Rattle.std.specs.Ordering.{is_lt}
use lib.Dec.{eqb, lit<, lit≤}
use lib.Pow.{pow_pos}
use lib.Ieee.{div, down, le, of_bits, round, root_below, root_twice, size, sqrt, unlike, up}
use lib.Ieee.Exact.{HasValue, round_exact}
use lib.Ieee.Fits.{and_l, and_r, div-fits, down_pos}
use lib.Ieee.Nearest.{div_mono}
use lib.Ieee.Order.{round_mono}
use lib.Ieee.Positive.{first_pos}
use lib.Ieee.Root.{whole_part}
use Rattle.elasticlunr_ranking.specs.Doubles.{◌+ᵈ◌, ◌-ᵈ◌, ◌*ᵈ◌, ◌/ᵈ◌, whole}
use Rattle.elasticlunr_ranking.specs.Numbers as n
use Rattle.elasticlunr_error.specs.Text.{Text, Bytes, text_cmp}
use Rattle.elasticlunr_trie.specs.Table.{posting, postings}
use Rattle.elasticlunr_store.specs.Contents.{field_length}
use Rattle.elasticlunr_ranking.specs.Counts.{AreShort, HasCounts}
use Rattle.elasticlunr_ranking.specs.Fields.{Field}
use Rattle.elasticlunr_ranking.specs.Order.{AreRanked}
use Rattle.elasticlunr_ranking.specs.Weights.{AreAllLookedUp, AreLookedUp, added, counted_if, field_score, idf_of, is_enough}
use Rattle.elasticlunr_ranking.specs.Weights.{is_found, is_found_itself, norm_of, part, penalty_of, shared, sum_of}
use Rattle.elasticlunr_ranking.specs.Weights.{token_score, tokens_score, total_score, utf16_length_of, weight}
use Rattle.elasticlunr_ranking.proofs.Finding.{tested}
use Rattle.elasticlunr_ranking.proofs.Under.{apart}
use Rattle.elasticlunr_ranking.proofs.Bounds.{AtLeastOne, Signed, Within, add_within, at_least, from_le, less, over}
use Rattle.elasticlunr_ranking.proofs.Bounds.{plus, plus_least, round_signed, saturated, times, two_to, whole_least}
use Rattle.elasticlunr_ranking.proofs.Bounds.{whole_signed, whole_within, wider}
use Rattle.elasticlunr_ranking.proofs.LogBounds.{IsPositive, logarithm_within, one_is, zero_is}

-- the double of 1 / 2 ^ 65 is that
tiny : HasValue (round binary64 false 1 (2 ^ 65)) false 1 (2 ^ 65)
tiny = round_exact binary64 false 1 (2 ^ 65) 1 1009 (lit< tt) (lit< tt) (lit< tt) refl

-- what is at least a fraction above 0 is above 0
positive_after : (x y : Float) (a c k : ℕ) → HasValue x false a c → 0 < a → 0 < c → Signed false y → Within k y
    → T (le x y) → IsPositive y
unfolding le
positive_after nan y a c k v some over_zero s small h = absurd v
positive_after (inf t) y a c k v some over_zero s small h = absurd v
positive_after (fin t m e) nan a c k v some over_zero s small h = absurd s
positive_after (fin t m e) (inf u) a c k v some over_zero s small h = absurd small
positive_after (fin t m e) (fin u n d) a c k v some over_zero s small h =
    let first : 0 < m * up e * c = lt_of_lt_of_le (mul-pos some (down_pos e)) (le_of_eq (sym v.1)) in
    let below = from_le (m * up e * down d) (n * up d * down e) true (both t u v.0 s h) in (
      s,
      first_pos n (up d) (first_pos (n * up d) (down e)
          (lt_of_lt_of_le (mul-pos (first_pos (m * up e) c first) (down_pos d)) below)),
    )
  where
    both : (t u : Bool) → t ≡ false → u ≡ false → T (le (fin t m e) (fin u n d)) → T (le (fin false m e) (fin false n d))
    both t u p q h = subst (λ t. T (le (fin t m e) (fin false n d))) p (subst (λ u. T (le (fin t m e) (fin u n d))) q h)

-- a quotient of what is at least 1 is above 0
ratio : (x y : Float) → AtLeastOne x → Within 64 x → AtLeastOne y → Within 65 y → IsPositive (div binary64 x y)
unfolding div
ratio nan y p a q b = absurd a
ratio (inf s) y p a q b = absurd a
ratio (fin s m e) nan p a q b = absurd b
ratio (fin s m e) (inf u) p a q b = absurd b
ratio (fin s m e) (fin u n d) p a q b =
    let A = m * up e * down d in
    let C = n * up d * down e in
    let some : 0 < n = first_pos n (up d) (lt_of_lt_of_le (down_pos d) q.1) in
    let C_pos : 0 < C = mul-pos (lt_of_lt_of_le (down_pos d) q.1) (down_pos e) in
    let under : C ≤ A * 2 ^ 65 = cross (m * up e) (down e) (n * up d) (down d) (2 ^ 65) p.1 b in
    let most : A ≤ 2 ^ 64 * C = crossed (m * up e) (down e) (n * up d) (down d) (2 ^ 64) a q.1 in
    subst (λ z. IsPositive (cond z (cond (eqb m 0) nan (inf (unlike s u))) (round binary64 (unlike s u) A C)))
    (sym (ne_eqb n 0 (λ none. omega arith)))
    (subst (λ t. IsPositive (round binary64 t A C)) (sym ((λ i. unlike (p.0 i) (q.0 i))))
    (positive_after (round binary64 false 1 (2 ^ 65)) (round binary64 false A C) 1 (2 ^ 65) 64 tiny (lit< tt) (lit< tt)
    (round_signed A C) (saturated (2 ^ 64) 64 (two_to 64 (lit< tt)) false A C C_pos most)
    (round_mono binary64 1 (2 ^ 65) A C (lit< tt) C_pos (le_trans (le_of_eq (one-mul C)) under))))
  where
    cross : (x e y d t : ℕ) → e ≤ x → y ≤ t * d → y * e ≤ x * d * t
    cross x e y d t h g = le_trans (mul-le-mul g h) (le_of_eq (mul_comm (t * d) x ∙ sym (mul_assoc x t d) ∙ mul_right_comm x t d))

    crossed : (x e y d t : ℕ) → x ≤ t * e → d ≤ y → x * d ≤ t * (y * e)
    crossed x e y d t h g = le_trans (mul-le-mul h g) (le_of_eq (mul_assoc t e y ∙ ap (λ z. t * z) (mul_comm e y)))

one_within : (k : ℕ) → Within k n.one_double
one_within k = subst (Within k) (sym one_is) (wider 0 k (fin false 1 (pos 0)) (omega arith) (lit≤ tt))

one_least : AtLeastOne n.one_double
one_least = subst AtLeastOne (sym one_is) (refl, lit≤ tt)

zero_within : (k : ℕ) → Within k n.zero_double
zero_within k = subst (Within k) (sym zero_is) (wider 0 k (fin false 0 (pos 0)) (omega arith) (lit≤ tt))

-- a word that is in some documents, and in no more than there are
idf_within : (documents found : ℕ) → 0 < documents → documents ≤ 2 ^ 64 → found ≤ documents → Within 25 (idf_of documents found)
idf_within documents found some small fewer =
    let x = whole documents in
    let y = whole found +ᵈ n.one_double in
    let hf : Within 64 (whole found) = whole_within found 64 (lit< tt) (le_trans fewer small) in
    let hx : Within 64 x = whole_within documents 64 (lit< tt) small in
    let hy : Within 65 y = plus 64 64 0 (lit< tt) (lit≤ tt) (lit≤ tt) (whole found) n.one_double hf (one_within 0) in
    let ly : AtLeastOne y = plus_least 64 64 0 (lit< tt) (lit≤ tt) (lit≤ tt) (whole found) n.one_double (whole_signed found) hf one_least (one_within 0) in
    let lx : AtLeastOne x = whole_least documents 64 (lit< tt) some small in
    plus 24 0 24 (lit< tt) (lit≤ tt) (lit≤ tt) n.one_double _ (one_within 0)
    (logarithm_within (x /ᵈ y) (ratio x y lx hx ly hy) (div-fits binary64 x y))

-- whole roots and squares
root_ge : (r N P : ℕ) → P * P ≤ N → N < (r + 1) * (r + 1) → P ≤ r
root_ge r N P h g = elim (cases_lt r P) [
  | inl low ↦ absurd (lt_irrefl N (lt_of_lt_of_le g (le_trans (mul-le-mul (le_suc r P low) (le_suc r P low)) h)))
  | inr past ↦ past
]
  where
    le_suc : (r P : ℕ) → r < P → r + 1 ≤ P
    le_suc r P h = omega arith

root_le : (r N Q : ℕ) → r * r ≤ N → N ≤ Q * Q → r ≤ Q
root_le r N Q h g = elim (cases_lt Q r) [
  | inl low ↦ absurd (more (mul-le-mul (le_suc Q r low) (le_suc Q r low)) (le_trans h g))
  | inr past ↦ past
]
  where
    le_suc : (r P : ℕ) → r < P → r + 1 ≤ P
    le_suc r P h = omega arith

    more : (Q + 1) * (Q + 1) ≤ r * r → r * r ≤ Q * Q → ⊥
    more a b = omega arith

twice_ge : (r b P : ℕ) → P ≤ r → 2 * P ≤ 2 * r + b
twice_ge r b P h = omega arith

twice_le : (r b Q : ℕ) → r ≤ Q → b ≤ 1 → 2 * r + b ≤ 2 * Q + 1
twice_le r b Q h g = omega arith

bit : (x : Bool) → cond x 0 1 ≤ 1
bit true = lit≤ tt
bit false = lit≤ tt

root_bounds : (N : ℕ) → 2 ^ 4542 ≤ N → N ≤ 2 ^ 4606 → (2 ^ 2272 ≤ root_twice N) × (root_twice N ≤ 2 ^ 33 * 2 ^ 2272)
unfolding root_twice
root_bounds N least most =
    let r = root_below (size N) N in
    let is = whole_part N in (
      le_trans (lit≤ tt) (twice_ge r (cond (eqb (r * r) N) 0 1) (2 ^ 2271) (root_ge r N (2 ^ 2271) (le_trans (lit≤ tt) least) is.1)),
      le_trans (twice_le r (cond (eqb (r * r) N) 0 1) (2 ^ 2303) (root_le r N (2 ^ 2303) is.0 (le_trans most (lit≤ tt)))
          (bit (eqb (r * r) N))) (lit≤ tt),
    )

-- the root of what is at least 1 is so, too
sqrt_least : (x : Float) → AtLeastOne x → Within 64 x → AtLeastOne (sqrt binary64 x)
unfolding sqrt
sqrt_least nan p a = absurd a
sqrt_least (inf s) p a = absurd a
sqrt_least (fin s zero e) p a = absurd (lt_irrefl 0 (lt_of_lt_of_le (down_pos e) (le_trans p.1 (le_of_eq (zero-mul (up e))))))
sqrt_least (fin true (suc m) e) p a = absurd (true≢false p.0)
sqrt_least (fin false (suc m) e) p a =
    let X = suc m * up e in
    let N = X * 2 ^ 4542 / down e in
    let bounds = root_bounds N ((le-div_iff_mul-le (down_pos e)).1 (le_trans (le_of_eq (mul_comm (2 ^ 4542) (down e))) (mul-le-mul_right (2 ^ 4542) p.1)))
    (le_trans (div_mono (X * 2 ^ 4542) (down e) (2 ^ 64 * 2 ^ 4542) 1 (down_pos e) (lit< tt)
    (le_trans (le_of_eq (mul-one (X * 2 ^ 4542))) (le_trans (mul-le-mul_right (2 ^ 4542) a) (le_of_eq (mul_right_comm (2 ^ 64) (down e) (2 ^ 4542))))))
    (lit≤ tt)) in
    at_least (root_twice N) (2 ^ 2272) 33 (lit< tt) (pow_pos 2272) bounds.0 bounds.1

norm_within : (length : ℕ) → length ≤ 2 ^ 64 → Within 1 (norm_of length)
norm_within zero small = one_within 1
norm_within (suc m) small =
    subst (λ b. Within 1 (cond b n.one_double (n.one_double /ᵈ sqrt binary64 (whole (suc m))))) (sym (eqb-suc-zero m))
    (over 1 (lit< tt) n.one_double (sqrt binary64 (whole (suc m))) (one_within 1)
    (sqrt_least (whole (suc m)) (whole_least (suc m) 64 (lit< tt) (omega arith) small) (whole_within (suc m) 64 (lit< tt) small)))

expanded : Within 0 n.expanded
unfolding of_bits
expanded = lit≤ tt

penalty_within : (token word : Text) → utf16_length_of token ≤ 2 ^ 64 → 0 < utf16_length_of word
    → utf16_length_of word ≤ 2 ^ 64 → Within 66 (penalty_of token word)
penalty_within token word short some small =
    let x = whole (utf16_length_of word) in
    let y = whole (utf16_length_of token) in
    let hx : Within 64 x = whole_within (utf16_length_of word) 64 (lit< tt) small in
    let hy : Within 64 y = whole_within (utf16_length_of token) 64 (lit< tt) short in
    let a : Within 65 (x -ᵈ y) = less 64 64 64 (lit< tt) (lit≤ tt) (lit≤ tt) x y hx hy in
    let b : Within 65 ((x -ᵈ y) /ᵈ x) =
    over 65 (lit< tt) (x -ᵈ y) x a (whole_least (utf16_length_of word) 64 (lit< tt) some small) in
    let d : Within 66 (n.one_double -ᵈ (x -ᵈ y) /ᵈ x) =
    less 65 0 65 (lit< tt) (lit≤ tt) (lit≤ tt) n.one_double ((x -ᵈ y) /ᵈ x) (one_within 0) b in
    choose (utf16_length_of word == utf16_length_of token) n.one_double
    (n.expanded *ᵈ (n.one_double -ᵈ (x -ᵈ y) /ᵈ x)) (one_within 66)
    (times 0 66 66 (lit< tt) (lit≤ tt) n.expanded (n.one_double -ᵈ (x -ᵈ y) /ᵈ x) expanded d)
  where
    choose : (c : Bool) (x y : Float) → Within 66 x → Within 66 y → Within 66 (cond c x y)
    choose true x y a b = a
    choose false x y a b = b

-- a score, if there is one, is at most 2 ^ k in size
abbrev pub Most : ℕ → Option Float → Type 0
Most k None = Unit {0}
Most k (Some x) = Within k x

-- A sum of any number of parts that are at most 2 ^ k: at 2 ^ l one part more no longer counts.
module _ (k l : ℕ) (nearest : HasValue (round binary64 false (2 ^ l + 2 ^ k) 1) false (2 ^ l) 1) where
  so_far : (total : Option Float) → Most l total → Within l (unwrap_or total n.zero_double)
  so_far None h = zero_within l
  so_far (Some x) h = h

  go_on : (total : Option Float) → Most l total → (parts : List (Option Float)) → All (Most k) parts
      → Most l (fold added total parts)
  go_on total h [] all = h
  go_on total h (None ∷ parts) all = go_on total h parts (All-tail (Most k) None parts all)
  go_on total h (Some x ∷ parts) all =
      go_on (Some (unwrap_or total n.zero_double +ᵈ x))
      (add_within (2 ^ l + 2 ^ k) l nearest l k (le_refl (2 ^ l + 2 ^ k)) (unwrap_or total n.zero_double) x (so_far total h)
      (All-head (Most k) (Some x) parts all))
      parts (All-tail (Most k) (Some x) parts all)

  sum_most : {A : Type 0} (f : A → Option Float) (xs : List A) → All (λ x. Most k (f x)) xs → Most l (sum_of (map f xs))
  sum_most f xs all = go_on None tt (map f xs) (All-map (Most k) f xs all)

-- the sums over words, tokens and fields
of_words : HasValue (round binary64 false (2 ^ 210 + 2 ^ 156) 1) false (2 ^ 210) 1
unfolding round
of_words = (refl, refl)

of_tokens : HasValue (round binary64 false (2 ^ 264 + 2 ^ 210) 1) false (2 ^ 264) 1
unfolding round
of_tokens = (refl, refl)

of_fields : HasValue (round binary64 false (2 ^ 446 + 2 ^ 392) 1) false (2 ^ 446) 1
unfolding round
of_fields = (refl, refl)

All-of_map : {A B : Type 0} (g : A → B) (P : B → Type 0) (xs : List A) → All P (map g xs) → All (λ x. P (g x)) xs
All-of_map g P xs h k d lt =
    subst P (get_or-map g xs k d (g d) lt) (h k (g d) (lt_of_lt_of_le lt (le_of_eq (sym (length-map xs g)))))

-- who has an entry is counted
some_found : (m : finite.FinMap {K = Bytes} text_cmp ℕ) (r : Bytes) (k : ℕ) → finite.get m r ≡ Some k → 0 < finite.len m
some_found m r k has = elim (cases_lt 0 (finite.len m)) [
  | inl some ↦ some
  | inr none ↦
      let bare : m ≡ finite.empty = finite.empty_of_len m (omega arith) in
      let hasnt : finite.get m r ≡ None = ap (λ m. finite.get m r) bare ∙ finite.get-empty text_cmp r in
      absurd (let both : Some k ≡ None = sym has ∙ hasnt in cc)
]

longer : (word : Text) → word ≢ [] → 0 < utf16_length_of word
longer [] some = absurd (some refl)
longer (c ∷ cs) some = omega arith

module _ (field : Field) (counts : HasCounts field) (r : Bytes) where
  part_most : (token word : Text) → utf16_length_of token < 2 ^ 64 → Most 156 (part field token word r)
  part_most token word short =
      let documents = finite.len field.contents.texts in
      let found = finite.len (postings field.table word) in
      let idf = idf_of documents found in
      let penalty = penalty_of token word in
      let size = field_length field.contents r field.name in
      elim (posting field.table word r) as (λ o. posting field.table word r ≡ o
      → Most 156 (option_map (weight field idf penalty r) o)) [
        | None ↦ λ _. tt
        | Some k ↦ λ is.
            let table = counts.is_table in
            let some : 0 < documents = lt_of_lt_of_le (some_found (postings field.table word) r k is) (counts.found word) in
            let known : word ≢ [] = λ e. let same : None ≡ Some k =
            sym (table.bare_root r) ∙ ap (λ w. posting field.table w r) (sym e) ∙ is in cc in
            let a : Within 64 (whole k) = whole_within k 64 (lit< tt) (le_of_lt (table.small word r k is)) in
            let b : Within 25 idf = idf_within documents found some (le_of_lt counts.documents) (counts.found word) in
            let d : Within 1 (norm_of size) = norm_within size (le_of_lt (counts.lengths r)) in
            let e : Within 66 penalty = penalty_within token word (le_of_lt short) (longer word known)
            (le_of_lt (counts.words word (r, ap is_some is))) in
            let f : Within 89 (whole k *ᵈ idf) = times 64 25 89 (lit< tt) (lit≤ tt) (whole k) idf a b in
            let g : Within 90 (whole k *ᵈ idf *ᵈ norm_of size) =
            times 89 1 90 (lit< tt) (lit≤ tt) (whole k *ᵈ idf) (norm_of size) f d in
            times 90 66 156 (lit< tt) (lit≤ tt) (whole k *ᵈ idf *ᵈ norm_of size) penalty g e
      ] refl

  token_most : (t : Text × List Text) → utf16_length_of t.0 < 2 ^ 64 → Most 210 (token_score field t.0 t.1 r)
  token_most t short = sum_most 156 210 of_words (λ word. part field t.0 word r) t.1
      (λ k d _. part_most t.0 (get_or t.1 k d) short)

  shared_within : (tokens exact : ℕ) (score : Float) → exact ≤ tokens → tokens ≤ 2 ^ 64 → Within 264 score
      → Within 328 (shared tokens exact score)
  shared_within tokens zero score few small h = wider 264 328 score (lit≤ tt) h
  shared_within tokens (suc exact) score few small h =
      subst (λ b. Within 328 (cond b score (score *ᵈ whole (suc exact) /ᵈ whole tokens))) (sym (eqb-suc-zero exact))
      (over 328 (lit< tt) (score *ᵈ whole (suc exact)) (whole tokens)
      (times 264 64 328 (lit< tt) (lit≤ tt) score (whole (suc exact)) h
      (whole_within (suc exact) 64 (lit< tt) (le_trans few small)))
      (whole_least tokens 64 (lit< tt) (omega arith) small))

  counted_most : (tokens found exact : ℕ) (total : Option Float) → exact ≤ tokens → tokens ≤ 2 ^ 64 → Most 264 total
      → Most 392 (counted_if field tokens found exact total)
  counted_most tokens found exact None few small h = tt
  counted_most tokens found exact (Some score) few small h =
      elim (field.boost == 0 || not (is_enough field.join tokens found)) as (λ b. Most 392 (cond b None
      (Some (shared tokens exact score *ᵈ whole field.boost)))) [
        | true ↦ tt
        | false ↦ times 328 64 392 (lit< tt) (lit≤ tt) (shared tokens exact score) (whole field.boost)
            (shared_within tokens exact score few small h) (whole_within field.boost 64 (lit< tt) (le_of_lt counts.boost))
      ]

  field_most : (tokens : List Text) (looked_up : List (Text × List Text)) → AreShort tokens
      → AreLookedUp field tokens looked_up → Most 392 (field_score field looked_up r)
  field_most tokens looked_up short are =
      let many : length looked_up ≡ length tokens =
      sym (length-map looked_up (λ (t : Text × List Text). t.0)) ∙ ap length are.0 in
      counted_most (length looked_up) (count_by (is_found field r) looked_up) (count_by (is_found_itself field r) looked_up)
      (tokens_score field looked_up r) (count_by-le-length (is_found_itself field r) looked_up)
      (le_trans (le_of_eq many) (le_of_lt short.0))
      (sum_most 210 264 of_tokens (λ t. token_score field t.0 t.1 r) looked_up
      (λ k d lt. token_most (get_or looked_up k d) (All-of_map (λ t. t.0) (λ token. utf16_length_of token < 2 ^ 64) looked_up
      (subst (All (λ token. utf16_length_of token < 2 ^ 64)) (sym are.0) short.1) k d lt)))

total_most : (fields : List Field) (tokens : List Text) (looked_up : List (Field × List (Text × List Text))) (r : Bytes)
    → All HasCounts fields → AreShort tokens → AreAllLookedUp fields tokens looked_up
    → Most 446 (total_score looked_up r)
total_most fields tokens looked_up r counts short are =
    sum_most 392 446 of_fields (λ f. field_score f.0 f.1 r) looked_up (λ k d lt.
    let f = get_or looked_up k d in
    field_most f.0 (All-of_map (λ f. f.0) HasCounts looked_up (subst (All HasCounts) (sym are.0) counts) k d lt) r
    tokens f.1 short (are.1 k d lt))

-- in a list in order, each reference has its own score
after : (k : Bytes) (es : List (Bytes × Float)) → T (below_all text_cmp k es)
    → All (λ e. T (is_lt (text_cmp k e.0))) es
after k [] h = All-nil _
after k (e ∷ es) h = All-cons (λ e. T (is_lt (text_cmp k e.0))) e es (and_l _ _ h) (after k es (and_r _ _ h))

own_scores : (es : List (Bytes × Float)) → T (is_sorted text_cmp es) → All (λ e. find text_cmp e.0 es ≡ Some e.1) es
own_scores [] h = All-nil _
own_scores (e ∷ es) h =
    All-cons (λ f. find text_cmp f.0 (e ∷ es) ≡ Some f.1) e es
    (ap (λ b. cond b (Some e.1) (find text_cmp e.0 es)) (tested e.0 e.0 ∙ (bytes_eq-Decides e.0 e.0).1 refl))
    (λ k d lt.
    let f = get_or es k d in
    ap (λ b. cond b (Some e.1) (find text_cmp f.0 es)) (tested f.0 e.0 ∙ nat_list_eq_equiv.symm e.0 f.0
    ∙ apart e.0 f.0 (after e.0 es (and_l _ _ h) k d lt))
    ∙ own_scores es (and_r _ _ h) k d lt)

finite_number : (x : Float) (k : ℕ) → Within k x → IsTrue (float_is_finite x)
unfolding float_is_finite
finite_number nan k h = absurd h
finite_number (inf s) k h = absurd h
finite_number (fin s m e) k h = refl

-- the law of numbers
pub hits_finite : (fields : List Field) (tokens : List Text) (hits : List (Bytes × Float)) → All HasCounts fields
    → AreShort tokens → AreRanked fields tokens hits → All (λ hit. IsTrue (float_is_finite hit.1)) hits
hits_finite fields tokens hits counts short ranked =
    All-permutation (λ hit. IsTrue (float_is_finite hit.1)) ranked.scores hits ranked.each
    (λ k d lt.
    let e = get_or ranked.scores k d in
    let own = sym (ranked.are.are e.0) ∙ own_scores ranked.scores ranked.are.in_order k d lt in
    finite_number e.1 446 (subst (Most 446) own
    (total_most fields tokens ranked.looked_up e.0 counts short ranked.of_fields)))
