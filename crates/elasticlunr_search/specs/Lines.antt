-- The lines that are printed.
use Rattle.std.specs.Prelude.{ℕ, List, [], ◌∷◌, ◌++◌}

-- each text, with a line feed after it
abbrev pub lines : List (List ℕ) → List ℕ
lines [] = []
lines (text ∷ texts) = text ++ 10 ∷ lines texts
