-- Sums with one part more.
use Rattle.std.proofs.Common.{◌≡◌, ◌≢◌, ◌+◌, ℕ, Bool, false, cond, List, [], ◌∷◌, ◌++◌, map, Option, Some, None}
use Rattle.std.proofs.Common.{refl, ap, ◌∙◌, add-zero}
use Rattle.std.specs.Prelude.{count_by}
use Rattle.std.specs.List.{fold}
use Rattle.std.specs.Float.{Float}
use Rattle.std.proofs.lemmas.List.{map-append}
use Rattle.std.proofs.lemmas.List.Sums.{fold-append}
use Rattle.elasticlunr_ranking.specs.Doubles.{◌+ᵈ◌}
use Rattle.elasticlunr_ranking.specs.Weights.{added, sum_of}
use Rattle.elasticlunr_ranking.specs.Numbers.{zero_double}

pub sum_push : {A : Type 0} (f : A → Option Float) (xs : List A) (x : A)
    → sum_of (map f (xs ++ x ∷ [])) ≡ added (sum_of (map f xs)) (f x)
sum_push f xs x = ap sum_of (map-append f xs (x ∷ [])) ∙ fold-append added None (map f xs) (f x ∷ [])

pub count_push : {A : Type 0} (q : A → Bool) (xs : List A) (x : A)
    → count_by q (xs ++ x ∷ []) ≡ count_by q xs + cond (q x) 1 0
count_push q xs x = fold-append (λ n y. n + cond (q y) 1 0) 0 xs (x ∷ [])

-- a sum that has a part stays one
pub stays : (s : Float) (parts : List (Option Float)) → fold added (Some s) parts ≢ None
stays s [] h = cc
stays s (None ∷ parts) h = stays s parts h
stays s (Some x ∷ parts) h = stays (s +ᵈ x) parts h

-- where no part is there, none is counted
pub none_counted : {A : Type 0} (f : A → Option Float) (q : A → Bool) → ((x : A) → f x ≡ None → q x ≡ false)
    → (xs : List A) → sum_of (map f xs) ≡ None → count_by q xs ≡ 0
none_counted {A} f q missed xs h = from xs 0 h
  where
    from : (xs : List A) (a : ℕ) → sum_of (map f xs) ≡ None → fold (λ n x. n + cond (q x) 1 0) a xs ≡ a
    from [] a h = refl
    from (x ∷ xs) a h = elim (f x) as (λ o. f x ≡ o → fold added (added None o) (map f xs) ≡ None
        → fold (λ n x. n + cond (q x) 1 0) (a + cond (q x) 1 0) xs ≡ a) [
          | None ↦ λ is none. ap (λ b. fold (λ n x. n + cond (q x) 1 0) (a + cond b 1 0) xs) (missed x is)
              ∙ ap (λ n. fold (λ n x. n + cond (q x) 1 0) n xs) (add-zero a) ∙ from xs a none
          | Some v ↦ λ is none. absurd (stays (zero_double +ᵈ v) (map f xs) none)
        ] refl h
