-- Sums that are too large.
use Rattle.std.proofs.Common.{◌≡◌, ◌<◌, ◌≤◌, ◌+◌, ◌-◌, ◌^◌, ℕ, List, Option, Some, None, IfNone, length, take, ap, arith, ◌∙◌}
use Rattle.std.specs.Prelude.{slice_range, sum}
use Rattle.std.proofs.lemmas.List.Sums.{sum_by_more}

pub if_none : {A : Type 0} (o : Option A) (P : Type 0) → P → IfNone o P
if_none None P p = p
if_none (Some x) P p = tt

-- what the numbers before a place sum to, so do they with the one there, or to more
pub too_many : (counts part : List ℕ) (n most : ℕ) → part ≡ slice_range counts 0 n → 2 ^ 64 ≤ sum part → most < 2 ^ 64
    → n < length counts → sum (take (n + 1) counts) ≤ most → ⊥
too_many counts part n most is large small low within =
    let whole : n - 0 ≡ n = omega arith in
    let same : sum part ≡ sum (take n counts) = ap sum is ∙ ap (λ m. sum (take m counts)) whole in
    let one = sum_by_more (λ x. x) counts n 0 low in
    omega (arith, large, small, within, same, one)
