-- Tokens in order are cut into groups: where each of them stands.
use Rattle.std.proofs.Common.{◌≡◌, ◌≢◌, ◌⊎◌, inl, inr, ◌<◌, ◌+◌, ℕ, zero, suc, true, true≢false, List, [], ◌∷◌, ◌++◌}
use Rattle.std.proofs.Common.{length, get_or, refl, sym, ap, subst, ◌∙◌, arith, bytes_eq, Less, Equal, Greater}
use Rattle.std.specs.Ordering.{nat_cmp, ordering_reverse, ordering_then}
use Rattle.std.specs.List.{AllByRecursion}
use Rattle.std.specs.List.Sorted.{IsStrictlySortedBy}
use Rattle.std.specs.declared.cmp.Ordering.{Ordering}
use Rattle.std.proofs.lemmas.Cmp.{nat_cmp_total, nat_list_cmp_total, ranked}
use Rattle.std.proofs.lemmas.Slice.Eq.{bytes_eq-Decides}
use Rattle.elasticlunr_error.specs.Text.{Bytes, is_listed, text_cmp}
use Rattle.elasticlunr_pieces.specs.Cut.{IsCut, IsGroup}
use Rattle.elasticlunr_pieces.specs.Head.{firsts}
use Rattle.elasticlunr_pieces.specs.Standing.{BeginsWith, IsLastNotAbove, StandsIn}
use Rattle.elasticlunr_pieces.proofs.Listed.{either, left_true, right_true}
use Rattle.elasticlunr_pieces.proofs.OneCut.{both_less, itself, listed_below}

-- a text is listed in the first part or in the second
listed_in : (b : Bytes) (xs ys : List Bytes) → is_listed b (xs ++ ys) ≡ true
    → (is_listed b xs ≡ true) ⊎ (is_listed b ys ≡ true)
listed_in b [] ys h = inr h
listed_in b (x ∷ xs) ys h = elim (either (bytes_eq b x) _ h) [
  | inl here ↦ inl (left_true (bytes_eq b x) _ here)
  | inr later ↦ elim (listed_in b xs ys later) [
    | inl first ↦ inl (right_true (bytes_eq b x) _ first)
    | inr second ↦ inr second
  ]
]

listed_first : (b : Bytes) (xs ys : List Bytes) → is_listed b xs ≡ true → is_listed b (xs ++ ys) ≡ true
listed_first b [] ys h = absurd (true≢false (sym h))
listed_first b (x ∷ xs) ys h = elim (either (bytes_eq b x) _ h) [
  | inl here ↦ left_true (bytes_eq b x) _ here
  | inr later ↦ right_true (bytes_eq b x) _ (listed_first b xs ys later)
]

listed_second : (b : Bytes) (xs ys : List Bytes) → is_listed b ys ≡ true → is_listed b (xs ++ ys) ≡ true
listed_second b [] ys h = h
listed_second b (x ∷ xs) ys h = right_true (bytes_eq b x) _ (listed_second b xs ys h)

-- the second part of what is in order
sorted_second : (xs ys : List Bytes) → IsStrictlySortedBy text_cmp (xs ++ ys) → IsStrictlySortedBy text_cmp ys
unfolding IsStrictlySortedBy
sorted_second [] ys order = order
sorted_second (x ∷ xs) ys order = sorted_second xs ys order.1

-- what stands in the first part is below what stands in the second
pub parts_rise : (a b : Bytes) (xs ys : List Bytes) → IsStrictlySortedBy text_cmp (xs ++ ys)
    → is_listed a xs ≡ true → is_listed b ys ≡ true → text_cmp a b ≡ Less
unfolding IsStrictlySortedBy
parts_rise a b [] ys order in_first in_second = absurd (true≢false (sym in_first))
parts_rise a b (x ∷ xs) ys order in_first in_second = elim (either (bytes_eq a x) _ in_first) [
  | inl here ↦ ap (λ y. text_cmp y b) ((bytes_eq-Decides a x).0 here)
      ∙ listed_below x b (xs ++ ys) order.0 (listed_second b xs ys in_second)
  | inr later ↦ parts_rise a b xs ys order.1 later in_second
]

-- the first one in order is not above another
not_above_first : (a x : Bytes) (xs : List Bytes) → IsStrictlySortedBy text_cmp (x ∷ xs)
    → is_listed a (x ∷ xs) ≡ true → text_cmp x a ≢ Greater
unfolding IsStrictlySortedBy
not_above_first a x xs order h above = elim (either (bytes_eq a x) _ h) [
  | inl here ↦ never (text_cmp a a) (nat_list_cmp_total.antisymm a a)
      (ap (λ y. text_cmp y a) ((bytes_eq-Decides a x).0 here) ∙ above)
  | inr later ↦ cc (listed_below x a xs order.0 later, above)
]
  where
    never : (o : Ordering) → o ≡ ordering_reverse o → o ≡ Greater → ⊥
    never Less e h = cc
    never Equal e h = cc
    never Greater e h = cc

module _ (text_of : List Bytes → Bytes) (size : ℕ) where
  no_group : (groups : List (List Bytes)) (entries : List Bytes) → IsCut text_of size entries ([] ∷ groups) → ⊥
  no_group groups entries (more, split, is, cut) = let none = is.some in omega (arith, none)

  -- what stands in a group is one of the entries
  pub listed_group : (b : Bytes) (groups : List (List Bytes)) (entries : List Bytes) (n : ℕ)
      → IsCut text_of size entries groups → StandsIn groups b n → is_listed b entries ≡ true
  listed_group b [] entries n cut stands = absurd (let there = stands.there in omega (arith, there))
  listed_group b (g ∷ gs) entries zero (more, split, is, cut) stands =
      ap (is_listed b) split ∙ listed_first b g more stands.listed
  listed_group b (g ∷ gs) entries (suc n) (more, split, is, cut) stands =
      let there = stands.there in
      ap (is_listed b) split ∙ listed_second b g more (listed_group b gs more n cut (record {
        there = omega (arith, there);
        listed = stands.listed;
      }))

  -- the first token of a group is one of its tokens
  pub first_stands : (groups : List (List Bytes)) (entries : List Bytes) (n : ℕ) → IsCut text_of size entries groups
      → n < length (firsts groups) → StandsIn groups (get_or (firsts groups) n []) n
  first_stands [] entries n cut lt = absurd (omega (arith, lt))
  first_stands ([] ∷ gs) entries n cut lt = absurd (no_group gs entries cut)
  first_stands ((t ∷ ts) ∷ gs) entries zero cut lt = record { there = omega arith; listed = itself t ts }
  first_stands ((t ∷ ts) ∷ gs) entries (suc n) (more, split, is, cut) lt =
      let later = first_stands gs more n cut (omega (arith, lt)) in
      let there = later.there in record { there = omega (arith, there); listed = later.listed }

  -- where a token stands
  pub record Place (groups : List (List Bytes)) (token : Bytes) : Type 0 where
    pub n : ℕ
    pub stands : StandsIn groups token n
    pub named : IsLastNotAbove (firsts groups) token n
    pub alone : (m : ℕ) → StandsIn groups token m → m ≡ n

  module _ (token t : Bytes) (ts more : List Bytes) (gs : List (List Bytes))
      (rises : IsStrictlySortedBy text_cmp ((t ∷ ts) ++ more)) (cut : IsCut text_of size more gs) where
    apart : is_listed token (t ∷ ts) ≡ true → is_listed token more ≡ true → ⊥
    apart a b = let same = parts_rise token token (t ∷ ts) more rises a b in both_less token token same same

    behind : (m : ℕ) → StandsIn ((t ∷ ts) ∷ gs) token (suc m) → StandsIn gs token m
    behind m stands = let there = stands.there in record {
      there = omega (arith, there);
      listed = stands.listed;
    }

    after_first : is_listed token (t ∷ ts) ≡ true → (m : ℕ) → 0 < m → m < length (t ∷ firsts gs)
        → text_cmp token (get_or (t ∷ firsts gs) m []) ≡ Less
    after_first first zero low high = absurd (omega (arith, low))
    after_first first (suc m) low high = parts_rise token (get_or (firsts gs) m []) (t ∷ ts) more rises first
        (listed_group (get_or (firsts gs) m []) gs more m cut (first_stands gs more m cut (omega (arith, high))))

    only_first : is_listed token (t ∷ ts) ≡ true → (m : ℕ) → StandsIn ((t ∷ ts) ∷ gs) token m → m ≡ 0
    only_first first zero stands = refl
    only_first first (suc m) stands = absurd (apart first (listed_group token gs more m cut (behind m stands)))

    in_first : is_listed token (t ∷ ts) ≡ true → Place ((t ∷ ts) ∷ gs) token
    in_first first = record {
      n = 0;
      stands = record { there = omega arith; listed = first };
      named = record {
        there = omega arith;
        not_above = not_above_first token t (ts ++ more) rises (listed_first token (t ∷ ts) more first);
        last = after_first first;
      };
      alone = only_first first;
    }

    after_later : (rest : Place gs token) → (m : ℕ) → suc rest.n < m → m < length (t ∷ firsts gs)
        → text_cmp token (get_or (t ∷ firsts gs) m []) ≡ Less
    after_later rest zero low high = absurd (omega (arith, low))
    after_later rest (suc m) low high = rest.named.last m (omega (arith, low)) (omega (arith, high))

    only_later : is_listed token more ≡ true → (rest : Place gs token) → (m : ℕ)
        → StandsIn ((t ∷ ts) ∷ gs) token m → m ≡ suc rest.n
    only_later second rest zero stands = absurd (apart stands.listed second)
    only_later second rest (suc m) stands = ap suc (rest.alone m (behind m stands))

    in_later : is_listed token more ≡ true → Place gs token → Place ((t ∷ ts) ∷ gs) token
    in_later second rest =
        let there : rest.n < length gs = rest.stands.there in
        let named_there : rest.n < length (firsts gs) = rest.named.there in record {
          n = suc rest.n;
          stands = record { there = omega (arith, there); listed = rest.stands.listed };
          named = record {
            there = omega (arith, named_there);
            not_above = rest.named.not_above;
            last = after_later rest;
          };
          alone = only_later second rest;
        }

  pub place_of : (token : Bytes) (groups : List (List Bytes)) (entries : List Bytes)
      → IsCut text_of size entries groups → IsStrictlySortedBy text_cmp entries → is_listed token entries ≡ true
      → Place groups token
  place_of token [] entries cut order h = absurd (true≢false (sym h ∙ ap (is_listed token) cut))
  place_of token ([] ∷ gs) entries cut order h = absurd (no_group gs entries cut)
  place_of token ((t ∷ ts) ∷ gs) entries (more, split, is, cut) order h =
      let rises = subst (IsStrictlySortedBy text_cmp) split order in
      elim (listed_in token (t ∷ ts) more (ap (is_listed token) (sym split) ∙ h)) [
        | inl first ↦ in_first token t ts more gs rises cut first
        | inr second ↦ in_later token t ts more gs rises cut second
            (place_of token gs more cut (sorted_second (t ∷ ts) more rises) second)
      ]

  -- the tokens of a group are below those of a later one
  pub groups_rise : (a b : Bytes) (groups : List (List Bytes)) (entries : List Bytes) (m n : ℕ)
      → IsCut text_of size entries groups → IsStrictlySortedBy text_cmp entries → StandsIn groups a m
      → StandsIn groups b n → m < n → text_cmp a b ≡ Less
  groups_rise a b [] entries m n cut order first second lt = absurd (let there = first.there in omega (arith, there))
  groups_rise a b (g ∷ gs) entries zero zero cut order first second lt = absurd (omega (arith, lt))
  groups_rise a b (g ∷ gs) entries (suc m) zero cut order first second lt = absurd (omega (arith, lt))
  groups_rise a b (g ∷ gs) entries zero (suc n) (more, split, is, cut) order first second lt =
      let there = second.there in
      parts_rise a b g more (subst (IsStrictlySortedBy text_cmp) split order) first.listed
      (listed_group b gs more n cut (record { there = omega (arith, there); listed = second.listed }))
  groups_rise a b (g ∷ gs) entries (suc m) (suc n) (more, split, is, cut) order first second lt =
      let there = first.there in
      let also = second.there in
      groups_rise a b gs more m n cut (sorted_second g more (subst (IsStrictlySortedBy text_cmp) split order))
      (record { there = omega (arith, there); listed = first.listed })
      (record { there = omega (arith, also); listed = second.listed }) (omega (arith, lt))

-- texts whose first characters are compared
begun_alike : (x y : ℕ) (xs ys r s : Bytes) (o p : Ordering) → o ≡ nat_cmp x y → o ≡ ordering_reverse p
    → ordering_then o (text_cmp (xs ++ r) ys) ≡ Less → ordering_then p (text_cmp ys (xs ++ s)) ≡ Less
    → (text_cmp (xs ++ r) ys ≡ Less → text_cmp ys (xs ++ s) ≡ Less → BeginsWith ys xs)
    → BeginsWith (y ∷ ys) (x ∷ xs)
begun_alike x y xs ys r s Equal Equal e t low high more =
    let same : x ≡ y = ranked x y Equal e in
    let rest = more low high in
    (rest.0, λ i. sym same i ∷ rest.1 i)
begun_alike x y xs ys r s Equal Less e t low high more = absurd (cc)
begun_alike x y xs ys r s Equal Greater e t low high more = absurd (cc)
begun_alike x y xs ys r s Less Less e t low high more = absurd (cc)
begun_alike x y xs ys r s Less Equal e t low high more = absurd (cc)
begun_alike x y xs ys r s Less Greater e t low high more = absurd (cc)
begun_alike x y xs ys r s Greater p e t low high more = absurd (cc)

between_both : (beginning r s b : Bytes) → text_cmp (beginning ++ r) b ≡ Less → text_cmp b (beginning ++ s) ≡ Less
    → BeginsWith b beginning
between_both [] r s b low high = (b, refl)
between_both (x ∷ xs) r s [] low high = absurd (cc)
between_both (x ∷ xs) r s (y ∷ ys) low high =
    begun_alike x y xs ys r s (nat_cmp x y) (nat_cmp y x) refl (nat_cmp_total.antisymm x y) low high
    (between_both xs r s ys)

-- a text between two that begin with a third one does so, too
pub between : (beginning a b c : Bytes) → text_cmp a b ≡ Less → text_cmp b c ≡ Less → BeginsWith a beginning
    → BeginsWith c beginning → BeginsWith b beginning
between beginning a b c below above (r, is) (s, also) =
    between_both beginning r s b (ap (λ t. text_cmp t b) (sym is) ∙ below) (ap (text_cmp b) (sym also) ∙ above)
