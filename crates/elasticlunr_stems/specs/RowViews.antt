-- Rows of the code as the definitions see them, and the lists that they are looked up in.
use Rattle.std.specs.Prelude.{ℕ, ◌+◌, ◌*◌, ◌%◌, ◌==◌, Bool, true, List, [], ◌∷◌, map, reverse}
use Rattle.std.specs.Prelude.{Option, Some, None}
use Rattle.std.specs.List.{slice_get}
use Rattle.std.specs.declared.vec.Vec.{Vec}
use Rattle.std.specs.declared.alloc.Global.{Global}
use Rattle.elasticlunr_error.specs.Text.{Text}
use Rattle.elasticlunr_stems.specs.Tables.{Row as RowOf}
use Rattle.elasticlunr_stems.specs.declared.row.Row.{Row}

abbrev pub row_of : Row → RowOf
row_of row = record { suffix = row.suffix.items; step = row.step }

abbrev pub rows_of : List Row → List RowOf
rows_of rows = map row_of rows

-- the first two characters of a text have the number, or there are fewer
abbrev pub begins_in : ℕ → Text → Bool
begins_in number [] = true
begins_in number (c ∷ []) = true
begins_in number (c ∷ d ∷ cs) = (c + 7 * d) % 64 == number

-- a text whose last two characters have the number may end with the suffix of the row
abbrev pub may_end : ℕ → RowOf → Bool
may_end number row = begins_in number (reverse row.suffix)

-- the rows of one of the lists
abbrev pub rows_in_list : Option (Vec Row Global) → List RowOf
rows_in_list None = []
rows_in_list (Some list) = rows_of list.items

abbrev pub listed_rows : List (Vec Row Global) → ℕ → List RowOf
listed_rows lists number = rows_in_list (slice_get lists number)
