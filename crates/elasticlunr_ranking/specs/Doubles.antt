-- Arithmetic on doubles: each operation is rounded to the nearest one.
use Rattle.std.specs.Prelude.{ℕ, pos}
use Rattle.std.specs.Float.{Float, binary64}
use Rattle.std.specs.Float.Ieee as ieee

infixl 60 ◌+ᵈ◌ ◌-ᵈ◌
infixl 70 ◌*ᵈ◌ ◌/ᵈ◌
abbrev pub ◌+ᵈ◌ : Float → Float → Float
x +ᵈ y = ieee.add binary64 x y

abbrev pub ◌-ᵈ◌ : Float → Float → Float
x -ᵈ y = ieee.sub binary64 x y

abbrev pub ◌*ᵈ◌ : Float → Float → Float
x *ᵈ y = ieee.mul binary64 x y

abbrev pub ◌/ᵈ◌ : Float → Float → Float
x /ᵈ y = ieee.div binary64 x y

-- a whole number
abbrev pub whole : ℕ → Float
whole n = ieee.of_int binary64 (pos n)
