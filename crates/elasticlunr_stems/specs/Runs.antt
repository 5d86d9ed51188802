-- What the interpreter says of a text at the beginning of a buffer; for private clauses.
use Rattle.std.specs.Prelude.{◌≡◌, ℕ, ◌≤◌, ◌-◌, List, length, take, Option, Some, None}
use Rattle.std.specs.Prelude.{IfSome}
use Rattle.elasticlunr_error.specs.Text.{Text}
use Rattle.elasticlunr_stems.specs.Tables.{Row}

-- the length of the text after the step; the text itself stays, where the step applies
abbrev pub Shortens : Option Text → Text → Option ℕ → Type 0
Shortens wanted text None = wanted ≡ None
Shortens wanted text (Some len) = (len ≤ length text) × (wanted ≡ Some (take len text))

-- the step of the row that was found, and the length of what stands before its suffix
abbrev pub IsCutAt : Option Row → Text → ℕ → ℕ → Type 0
IsCutAt found text step len =
    (row : Row) × (found ≡ Some row) × (row.step ≡ step)
    × (length text - length row.suffix ≡ len) × (len ≤ length text)

abbrev pub Cuts : Option Row → Text → Option (ℕ × ℕ) → Type 0
Cuts found text None = found ≡ None
Cuts found text (Some place) = IsCutAt found text place.0 place.1

-- the length of the text that then stands in the buffer, where the step applies; else the buffer
-- is as it was
abbrev pub Gives : Option Text → List ℕ → List ℕ → Option ℕ → Type 0
Gives wanted old new None = (wanted ≡ None) × (new ≡ old)
Gives wanted old new (Some len) = (len ≤ length new) × (wanted ≡ Some (take len new))

-- the buffer is as it was, and the text no longer
abbrev pub Stays : ℕ → List ℕ → List ℕ → Option ℕ → Type 0
Stays len old new left = (new ≡ old) × IfSome left (λ shorter. shorter ≤ len)
