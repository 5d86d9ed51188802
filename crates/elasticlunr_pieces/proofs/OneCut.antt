-- Entries are cut in one way, and tables have one list of tokens.
use Rattle.std.proofs.Common.{◌≡◌, ◌⊎◌, inl, inr, ◌<◌, ◌≤◌, ◌+◌, ℕ, true, true≢false, List, []}
use Rattle.std.proofs.Common.{◌∷◌, ◌++◌}
use Rattle.std.proofs.Common.{length, map, drop, get_or, refl, sym, ap, subst, ◌∙◌, append_assoc, arith, length-append}
use Rattle.std.proofs.Common.{bytes_eq, Less, Greater}
use Rattle.std.specs.Ordering.{ordering_reverse}
use Rattle.std.specs.List.{AllByRecursion}
use Rattle.std.specs.List.Sorted.{IsStrictlySortedBy}
use Rattle.std.proofs.lemmas.Cmp.{nat_list_cmp_total}
use Rattle.std.proofs.lemmas.List.{map-append}
use Rattle.std.proofs.lemmas.Slice.Eq.{bytes_eq-Decides}
use Rattle.elasticlunr_error.specs.Text.{Bytes, is_listed, text_cmp}
use Rattle.elasticlunr_pieces.proofs.Listed.{either, left_true, right_true}
use Rattle.elasticlunr_pieces.specs.Cut.{IsGroup, IsCut}
use Rattle.elasticlunr_pieces.specs.Steps.{after_commas, joined}

module _ {A : Type 0} where
  -- h is g and more, from the same entries
  abbrev pub Longer : (g more h rest : List A) → Type 0
  Longer g more h rest = (x : A) × (xs : List A) × (h ≡ g ++ x ∷ xs) × (more ≡ x ∷ (xs ++ rest))

  compare : (g more h rest : List A) → g ++ more ≡ h ++ rest
      → ((g ≡ h) × (more ≡ rest)) ⊎ (Longer g more h rest ⊎ Longer h rest g more)
  compare [] more [] rest e = inl (refl, e)
  compare [] more (x ∷ h) rest e = inr (inl (x, h, refl, e))
  compare (x ∷ g) more [] rest e = inr (inr (x, g, refl, sym e))
  compare (x ∷ g) more (y ∷ h) rest e =
      let same : x ≡ y = ap (λ l. get_or l 0 x) e in
      let tails : g ++ more ≡ h ++ rest = ap (drop 1) e in
      elim (compare g more h rest tails) [
        | inl both ↦ inl ((λ i. same i ∷ both.0 i), both.1)
        | inr one ↦ elim one [
          | inl a ↦ inr (inl (a.0, a.1, (λ i. sym same i ∷ a.2 i), a.3))
          | inr b ↦ inr (inr (b.0, b.1, (λ i. same i ∷ b.2 i), b.3))
        ]
      ]

  module _ (text_of : List A → Bytes) (size : ℕ)
      (grows : (xs ys : List A) → 0 < length xs → length (text_of xs) ≤ length (text_of (xs ++ ys))) where
    too_long : (g more h rest : List A) → IsGroup text_of size g more → IsGroup text_of size h rest
        → Longer g more h rest → ⊥
    too_long g more h rest is_g is_h (x, xs, whole, next) =
        let all : (g ++ x ∷ []) ++ xs ≡ h = append_assoc g (x ∷ []) xs ∙ sym whole in
        let full : size < length (text_of (g ++ x ∷ [])) = is_g.full x (xs ++ rest) next in
        let long : length (g ++ x ∷ []) ≡ length g + 1 = length-append g (x ∷ []) in
        let more_long : length h ≡ length (g ++ x ∷ []) + length xs = ap length (sym all)
        ∙ length-append (g ++ x ∷ []) xs in
        let some : 0 < length g = is_g.some in
        let grown : length (text_of (g ++ x ∷ [])) ≤ length (text_of h) =
        subst (λ l. length (text_of (g ++ x ∷ [])) ≤ length (text_of l)) all
        (grows (g ++ x ∷ []) xs (omega (arith, long))) in
        let fits : length (text_of h) ≤ size = is_h.fits (omega (arith, long, more_long, some)) in
        omega (arith, full, grown, fits)

    no_group : (group more : List A) → [] ≡ group ++ more → 0 < length group → ⊥
    no_group [] more e lt = omega arith
    no_group (x ∷ group) more e lt = cc

    pub one_cut : (entries : List A) (gs hs : List (List A)) → IsCut text_of size entries gs
        → IsCut text_of size entries hs → gs ≡ hs
    one_cut entries [] [] a b = refl
    one_cut entries [] (h ∷ hs) a (rest, split, is, cut) = absurd (no_group h rest (sym a ∙ split) is.some)
    one_cut entries (g ∷ gs) [] (more, split, is, cut) b = absurd (no_group g more (sym b ∙ split) is.some)
    one_cut entries (g ∷ gs) (h ∷ hs) (more, split, is, cut) (rest, other_split, other_is, other_cut) =
        elim (compare g more h rest (sym split ∙ other_split)) [
          | inl both ↦ λ i. both.0 i ∷ one_cut more gs hs cut
              (subst (λ l. IsCut text_of size l hs) (sym both.1) other_cut) i
          | inr one ↦ elim one [
            | inl a ↦ absurd (too_long g more h rest is other_is a)
            | inr b ↦ absurd (too_long h rest g more other_is is b)
          ]
        ]

after_both : (xs ys : List Bytes) → after_commas (xs ++ ys) ≡ after_commas xs ++ after_commas ys
after_both [] ys = refl
after_both (x ∷ xs) ys = ap (λ r. 44 ∷ r) (ap (λ r. x ++ r) (after_both xs ys)
    ∙ sym (append_assoc x (after_commas xs) (after_commas ys)))

-- more entries make a longer text
pub in_brackets_grows : {A : Type 0} (f : A → Bytes) (open_byte close_byte : ℕ) (xs ys : List A) → 0 < length xs
    → length (open_byte ∷ (joined (map f xs) ++ close_byte ∷ []))
    ≤ length (open_byte ∷ (joined (map f (xs ++ ys)) ++ close_byte ∷ []))
in_brackets_grows f b e [] ys some = absurd (omega arith)
in_brackets_grows f b e (x ∷ xs) ys some =
    let both : joined (map f ((x ∷ xs) ++ ys)) ≡ joined (map f (x ∷ xs)) ++ after_commas (map f ys) =
    ap (λ l. f x ++ after_commas l) (map-append f xs ys) ∙ ap (λ r. f x ++ r) (after_both (map f xs) (map f ys))
    ∙ sym (append_assoc (f x) (after_commas (map f xs)) (after_commas (map f ys))) in
    let first : length (joined (map f (x ∷ xs)) ++ e ∷ []) ≡ length (joined (map f (x ∷ xs))) + 1 =
    length-append (joined (map f (x ∷ xs))) (e ∷ []) in
    let second : length (joined (map f ((x ∷ xs) ++ ys)) ++ e ∷ []) ≡ length (joined (map f ((x ∷ xs) ++ ys))) + 1 =
    length-append (joined (map f ((x ∷ xs) ++ ys))) (e ∷ []) in
    let longer : length (joined (map f ((x ∷ xs) ++ ys)))
    ≡ length (joined (map f (x ∷ xs))) + length (after_commas (map f ys)) =
    ap length both ∙ length-append (joined (map f (x ∷ xs))) (after_commas (map f ys)) in
    omega (arith, first, second, longer)

-- ---- one list of tokens

pub listed_below : (x b : Bytes) (xs : List Bytes) → AllByRecursion (λ z. text_cmp x z ≡ Less) xs → is_listed b xs ≡ true
    → text_cmp x b ≡ Less
listed_below x b [] below h = absurd (true≢false (sym h))
listed_below x b (y ∷ xs) below h = elim (either (bytes_eq b y) _ h) [
  | inl here ↦ ap (text_cmp x) ((bytes_eq-Decides b y).0 here) ∙ below.0
  | inr later ↦ listed_below x b xs below.1 later
]

pub both_less : (x y : Bytes) → text_cmp x y ≡ Less → text_cmp y x ≡ Less → ⊥
both_less x y a b = let turned : text_cmp x y ≡ Greater = nat_list_cmp_total.antisymm x y ∙ ap ordering_reverse b in
    cc (a, turned)

pub itself : (x : Bytes) (xs : List Bytes) → is_listed x (x ∷ xs) ≡ true
itself x xs = left_true (bytes_eq x x) _ ((bytes_eq-Decides x x).1 refl)

later : (x b : Bytes) (xs ys : List Bytes) → AllByRecursion (λ z. text_cmp x z ≡ Less) xs
    → ((c : Bytes) → is_listed c (x ∷ xs) ≡ true → is_listed c (x ∷ ys) ≡ true)
    → is_listed b xs ≡ true → is_listed b ys ≡ true
later x b xs ys below all h =
    let above : text_cmp x b ≡ Less = listed_below x b xs below h in
    elim (either (bytes_eq b x) _ (all b (right_true (bytes_eq b x) _ h))) [
      | inl here ↦ let same : text_cmp x x ≡ Less = ap (text_cmp x) (sym ((bytes_eq-Decides b x).0 here)) ∙ above in
          absurd (both_less x x same same)
      | inr there ↦ there
    ]

pub one_order : (xs ys : List Bytes) → IsStrictlySortedBy text_cmp xs → IsStrictlySortedBy text_cmp ys
    → ((b : Bytes) → is_listed b xs ≡ true → is_listed b ys ≡ true)
    → ((b : Bytes) → is_listed b ys ≡ true → is_listed b xs ≡ true) → xs ≡ ys
unfolding IsStrictlySortedBy
one_order [] [] s t to back = refl
one_order [] (y ∷ ys) s t to back = absurd (true≢false (sym (back y (itself y ys))))
one_order (x ∷ xs) [] s t to back = absurd (true≢false (sym (to x (itself x xs))))
one_order (x ∷ xs) (y ∷ ys) s t to back =
    let same : x ≡ y = elim (either (bytes_eq x y) _ (to x (itself x xs))) [
      | inl here ↦ (bytes_eq-Decides x y).0 here
      | inr behind ↦ elim (either (bytes_eq y x) _ (back y (itself y ys))) [
        | inl there ↦ sym ((bytes_eq-Decides y x).0 there)
        | inr before ↦ absurd (both_less x y (listed_below x y xs s.0 before) (listed_below y x ys t.0 behind))
      ]
    ] in
    let to_here = λ (c : Bytes) (h : is_listed c (x ∷ xs) ≡ true).
    subst (λ z. is_listed c (z ∷ ys) ≡ true) (sym same) (to c h) in
    let back_here = λ (c : Bytes) (h : is_listed c (x ∷ ys) ≡ true).
    back c (subst (λ z. is_listed c (z ∷ ys) ≡ true) same h) in
    let below : AllByRecursion (λ z. text_cmp x z ≡ Less) ys =
    subst (λ w. AllByRecursion (λ z. text_cmp w z ≡ Less) ys) (sym same) t.0 in
    λ i. same i ∷ one_order xs ys s.1 t.1 (λ b. later x b xs ys s.0 to_here) (λ b. later x b ys xs below back_here) i
