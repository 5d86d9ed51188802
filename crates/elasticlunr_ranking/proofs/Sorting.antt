-- Each list can be sorted, and sorted lists of which one comes first join to one.
use Rattle.std.proofs.Common.{◌≡◌, ◌<◌, ◌+◌, ◌-◌, Bool, true, false, cond, List, [], ◌∷◌, ◌++◌, length, get_or}
use Rattle.std.proofs.Common.{All, inl, inr, refl, ap, ◌∙◌, arith}
use Rattle.std.proofs.lemmas.Bool.{cases_lt}
use Rattle.std.proofs.lemmas.List.{get_or_append_left, get_or-append_right, length-append}
use Rattle.std.proofs.lemmas.List.Elements.{All-cons, All-nil, All-weaker}
use Rattle.std.proofs.lemmas.List.Sorted.{All-permutation, IsPermutation-cons, IsPermutation-middle, IsPermutation-refl}
use Rattle.std.proofs.lemmas.List.Sorted.{IsPermutation-sym, IsPermutation-trans}
use Rattle.std.specs.Prelude.{⊤}
use Rattle.std.specs.Cmp.{IsStrictWeakOrder}
use Rattle.std.specs.List.Sorted.{IsPermutation, IsSortedBy}

module _ {X : Type 0} (lt : X → X → Bool) where
  -- y is less than none of these
  abbrev pub IsAbove : List X → X → Type 0
  IsAbove xs y = All (λ x. lt y x ≡ false) xs

  pub joined : (xs ys : List X) → IsSortedBy lt xs → IsSortedBy lt ys → All (IsAbove xs) ys → IsSortedBy lt (xs ++ ys)
  joined xs ys up up' above k d low bound =
      let total = length-append xs ys in
      elim (cases_lt (k + 1) (length xs)) [
        | inl inside ↦
            let inside' : k < length xs = omega arith in
            (λ i. lt (get_or_append_left xs ys d (k + 1) inside i) (get_or_append_left xs ys d k inside' i))
            ∙ up k d low inside
        | inr past ↦
            let there : k + 1 - length xs < length ys = omega arith in
            (λ i. lt (get_or-append_right xs ys (length xs) (k + 1) d refl past i) (get_or (xs ++ ys) k d))
            ∙ elim (cases_lt k (length xs)) [
              | inl inside ↦
                  ap (lt (get_or ys (k + 1 - length xs) d)) (get_or_append_left xs ys d k inside)
                  ∙ above (k + 1 - length xs) d there k d inside
              | inr past' ↦
                  let next : k + 1 - length xs ≡ k - length xs + 1 = omega arith in
                  (λ i. lt (get_or ys (next i) d) (get_or-append_right xs ys (length xs) k d refl past' i))
                  ∙ up' (k - length xs) d (omega arith) (omega arith)
            ]
      ]

  insert_by : X → List X → List X
  insert_by y [] = y ∷ []
  insert_by y (x ∷ xs) = cond (lt y x) (y ∷ x ∷ xs) (x ∷ insert_by y xs)

  pub sorted_of : List X → List X
  sorted_of [] = []
  sorted_of (x ∷ xs) = insert_by x (sorted_of xs)

  pub sorted_of-nil : sorted_of [] ≡ []
  unfolding sorted_of
  sorted_of-nil = refl

  -- each element is above those before it
  abbrev Rises : List X → Type 0
  Rises [] = ⊤
  Rises (x ∷ xs) = All (IsAbove (x ∷ [])) xs × Rises xs

  rising : (xs : List X) → Rises xs → IsSortedBy lt xs
  rising [] up = λ k d low bound. absurd (omega arith)
  rising (x ∷ xs) up = joined (x ∷ []) xs (λ k d low bound. absurd (omega arith)) (rising xs up.1) up.0

  one : (x y : X) → lt y x ≡ false → IsAbove (x ∷ []) y
  one x y e = All-cons (λ x. lt y x ≡ false) x [] e (All-nil _)

  inserted : (y : X) (xs : List X) → IsPermutation (y ∷ xs) (insert_by y xs)
  unfolding insert_by
  inserted y [] = IsPermutation-refl (y ∷ [])
  inserted y (x ∷ xs) = elim (lt y x) as (λ b. IsPermutation (y ∷ x ∷ xs) (cond b (y ∷ x ∷ xs) (x ∷ insert_by y xs))) [
    | true ↦ IsPermutation-refl (y ∷ x ∷ xs)
    | false ↦ IsPermutation-trans (y ∷ x ∷ xs) (x ∷ y ∷ xs) (x ∷ insert_by y xs)
        (IsPermutation-sym (x ∷ y ∷ xs) (y ∷ x ∷ xs) (IsPermutation-middle (x ∷ []) y xs))
        (IsPermutation-cons x (y ∷ xs) (insert_by y xs) (inserted y xs))
  ]

  pub sorted_permutation : (xs : List X) → IsPermutation xs (sorted_of xs)
  unfolding sorted_of
  sorted_permutation [] = IsPermutation-refl []
  sorted_permutation (x ∷ xs) = IsPermutation-trans (x ∷ xs) (x ∷ sorted_of xs) (insert_by x (sorted_of xs))
      (IsPermutation-cons x xs (sorted_of xs) (sorted_permutation xs)) (inserted x (sorted_of xs))

  module _ (order : IsStrictWeakOrder lt) where
    still_rises : (y : X) (xs : List X) → Rises xs → Rises (insert_by y xs)
    unfolding insert_by
    still_rises y [] up = (All-nil _, up)
    still_rises y (x ∷ xs) up = elim (lt y x) as (λ b. lt y x ≡ b → Rises (cond b (y ∷ x ∷ xs) (x ∷ insert_by y xs))) [
      | true ↦ λ e.
          let after : lt x y ≡ false = order.one_way y x e in (
            All-cons (IsAbove (y ∷ [])) x xs (one y x after)
                (All-weaker (IsAbove (x ∷ [])) (IsAbove (y ∷ []))
                (λ z h. one y z (order.chain z x y (h 0 x (omega arith)) after)) xs up.0),
            up,
          )
      | false ↦ λ e. (
        All-permutation (IsAbove (x ∷ [])) (y ∷ xs) (insert_by y xs) (inserted y xs)
            (All-cons (IsAbove (x ∷ [])) y xs (one x y e) up.0),
        still_rises y xs up.1,
      )
    ] refl

    all_rise : (xs : List X) → Rises (sorted_of xs)
    unfolding sorted_of
    all_rise [] = tt
    all_rise (x ∷ xs) = still_rises x (sorted_of xs) (all_rise xs)

    pub sorted_rises : (xs : List X) → IsSortedBy lt (sorted_of xs)
    sorted_rises xs = rising (sorted_of xs) (all_rise xs)
