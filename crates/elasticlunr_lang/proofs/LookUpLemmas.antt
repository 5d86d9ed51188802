-- Looking a list through.
use Rattle.std.proofs.Common.{◌≡◌, ◌≢◌, ◌<◌, ◌+◌, ℕ, List, length, get_or, ap, ◌∙◌, arith}
use mathlib.Core.Logic.{⊎_elim}
use Rattle.std.proofs.lemmas.List.{get_or_default}
use Rattle.std.proofs.lemmas.Bool.Decides.{leb_tells}

-- none of the first items has the value, and the next one doesn't either
pub none-more : {X Y : Type 0} (f : X → Y) (y : Y) (xs : List X) (i : ℕ) (e : X) → i < length xs →
    ((k : ℕ) (d : X) → k < i → f (get_or xs k d) ≢ y) → f (get_or xs i e) ≢ y →
    (k : ℕ) (d : X) → k < i + 1 → f (get_or xs k d) ≢ y
none-more f y xs i e within before not k d low same =
    ⊎_elim
    (λ below. before k d (omega (arith, below.1)) same)
    (λ above.
    let is : i ≡ k = omega (arith, above.1, low) in
    not (ap f (get_or_default xs i e d within ∙ ap (λ n. get_or xs n d) is) ∙ same))
    (leb_tells (k + 1) i)
