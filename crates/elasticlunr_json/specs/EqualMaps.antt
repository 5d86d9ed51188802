-- What the test of equality of two maps decides.
use Rattle.std.proofs.Common.{◌≡◌, ℕ, Bool, true, false, ◌&&◌, List, [], ◌∷◌, refl, subst, bytes_eq}
use Rattle.std.proofs.Common.{nat_eq}
use mathlib.Core.Bool.{false≢true}
use Rattle.std.specs.Bool.{Decides}
use Rattle.std.specs.Cmp.Lexicographic.{pointwise}
use Rattle.std.specs.FinMap as finite
use Rattle.std.proofs.lemmas.Bool.{eqb-true, eq-eqb}
use Rattle.std.proofs.lemmas.Slice.Eq.{bytes_eq-Decides}
use Rattle.elasticlunr_error.specs.Text.{Bytes, text_cmp}
use Rattle.elasticlunr_json.specs.Maps.{same_map}

pub both_true : (a b : Bool) → (a && b) ≡ true → (a ≡ true) × (b ≡ true)
both_true true b e = (refl, e)
both_true false b e = absurd (false≢true e)

module _ {X : Type 0} (same : X → X → Bool) (one : (x y : X) → Decides (same x y) (x ≡ y)) where
  list_one : (xs ys : List (Bytes × X)) → pointwise (λ p q. bytes_eq p.0 q.0 && same p.1 q.1) xs ys
      ≡ true → xs ≡ ys
  list_one [] [] e = refl
  list_one [] (y ∷ ys) e = absurd (false≢true e)
  list_one (x ∷ xs) [] e = absurd (false≢true e)
  list_one ((k, x) ∷ xs) ((l, y) ∷ ys) e =
      let parts = both_true _ _ e in
      let first = both_true _ _ parts.0 in
      λ i. ((bytes_eq-Decides k l).0 first.0 i, (one x y).0 first.1 i) ∷ list_one xs ys parts.1 i

  itself : (xs : List (Bytes × X)) → pointwise (λ p q. bytes_eq p.0 q.0 && same p.1 q.1) xs xs
      ≡ true
  itself [] = refl
  itself ((k, x) ∷ xs) = λ i. ((bytes_eq-Decides k k).1 refl i && (one x x).1 refl i) && itself xs i

  pub map_Decides : (m n : finite.FinMap text_cmp X) → Decides (same_map same m n) (m ≡ n)
  map_Decides m n = (
    λ e. finite.same_entries_map m n
        (list_one (finite.entries m) (finite.entries n) e),
    λ p. subst (λ q. same_map same m q
        ≡ true) p (itself (finite.entries m)),
  )

pub nat_Decides : (x y : ℕ) → Decides (nat_eq x y) (x ≡ y)
nat_Decides x y = (eqb-true x y, eq-eqb x y)
