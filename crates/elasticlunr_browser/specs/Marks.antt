-- A class of characters as the marks where it begins and where it ends, in turn.
use Rattle.std.specs.Prelude.{◌≡◌, ℕ, ◌==◌, ◌%◌, nat_le, Bool, List}
use Rattle.std.specs.List.{count_by}
use Rattle.std.specs.List.Sorted.{IsStrictlyIncreasing}
use Rattle.std.specs.Char.{InScalarRange}

abbrev pub is_odd : ℕ → Bool
is_odd n = (n % 2) == 1

-- an odd number of marks stands at the character or before it
abbrev pub is_marked : List ℕ → ℕ → Bool
is_marked marks c = is_odd (count_by (λ mark. nat_le mark c) marks)

-- the marks rise, so that they can be looked up by binary search, and the marked characters are
-- those of the class
pub record Marks (has : ℕ → Bool) (marks : List ℕ) : Type 0 where
  pub rise : IsStrictlyIncreasing marks
  pub marked : (c : ℕ) → InScalarRange c → is_marked marks c ≡ has c
