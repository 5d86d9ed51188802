-- On truth values and on lists of numbers.
use Rattle.std.proofs.Common.{◌≡◌, ℕ, Bool, true, false, ◌&&◌, List, ◌∷◌, Option, Some, None, IfNone, refl, sym, ◌∙◌}

-- both parts of a conjunction that holds
pub and_first : (a b : Bool) → a && b ≡ true → a ≡ true
and_first true b f = refl
and_first false b f = cc

pub and_second : (a b : Bool) → a && b ≡ true → b ≡ true
and_second true b f = f
and_second false b f = cc

pub and_both : (a b : Bool) → a ≡ true → b ≡ true → a && b ≡ true
and_both a b e f = rw (e, f) refl

pub contradiction : (b : Bool) → b ≡ true → b ≡ false → ⊥
contradiction b e f = let g : true ≡ false = sym e ∙ f in cc

-- the parts of equal lists
pub heads : (a b : ℕ) (xs ys : List ℕ) → a ∷ xs ≡ b ∷ ys → a ≡ b
heads a b xs ys e = cc

pub tails : (a b : ℕ) (xs ys : List ℕ) → a ∷ xs ≡ b ∷ ys → xs ≡ ys
tails a b xs ys e = cc

-- what holds, holds where there is nothing
pub IfNone-always : {A P : Type 0} (o : Option A) → P → IfNone o P
IfNone-always None p = p
IfNone-always (Some a) p = tt
