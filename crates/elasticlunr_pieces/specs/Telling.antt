-- When the entries of pieces determine what the index has.
use Rattle.std.specs.Prelude.{ℕ, List, [], ◌∷◌, IsSome}
use Rattle.elasticlunr_error.specs.Text.{Bytes}
use Rattle.elasticlunr_pieces.specs.Entries.{number_of}

-- the reference of each posting has a number
abbrev pub HasNumbers : List Bytes → List (Bytes × ℕ) → Type 0
HasNumbers names [] = Unit {0}
HasNumbers names (p ∷ ps) = IsSome (number_of names p.0) × HasNumbers names ps
