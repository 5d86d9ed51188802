-- Lists whose items are related to those of one list, place by place.
use Rattle.std.proofs.Common.{◌≡◌, List, [], ◌∷◌, refl}
use Rattle.std.specs.List.{AllZip}

-- what is related to the items of a list, where each has one partner
pub one_zip : {A B : Type 0} (R : A → B → Type 0) → ((x : A) (y z : B) → R x y → R x z → y ≡ z)
    → (xs : List A) (ys zs : List B) → AllZip R xs ys → AllZip R xs zs → ys ≡ zs
one_zip R one [] [] [] a b = refl
one_zip R one [] [] (z ∷ zs) a b = absurd b
one_zip R one [] (y ∷ ys) zs a b = absurd a
one_zip R one (x ∷ xs) [] zs a b = absurd a
one_zip R one (x ∷ xs) (y ∷ ys) [] a b = absurd b
one_zip R one (x ∷ xs) (y ∷ ys) (z ∷ zs) a b =
    let head : y ≡ z = one x y z a.0 b.0 in
    let tail : ys ≡ zs = one_zip R one xs ys zs a.1 b.1 in cc
