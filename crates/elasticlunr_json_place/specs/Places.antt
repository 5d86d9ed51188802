-- Where a byte of a text stands: its line and its column.
use Rattle.std.specs.Prelude.{◌≡◌, ◌+◌, ◌-◌, ◌<◌, ◌≤◌, ◌==◌, ◌⊎◌, ℕ, Bool, not, take, length, min}
use Rattle.std.specs.Prelude.{count_by, bit_and}
use Rattle.std.specs.List.{after_last}
use Rattle.elasticlunr_error.specs.Text.{Bytes}
use Rattle.elasticlunr_json_place.specs.declared.place.Place.{Place}

abbrev pub is_line_feed : ℕ → Bool
is_line_feed b = b == 10

-- a byte of UTF-8 that begins a character, and goes on with none
abbrev pub is_first : ℕ → Bool
is_first b = not (bit_and b 192 == 128)

-- the line of the byte at an offset, from 1: the line feeds before it
abbrev pub line_at : Bytes → ℕ → ℕ
line_at text offset = 1 + count_by is_line_feed (take offset text)

-- its column, from 1: the characters between the last line feed before it and it
abbrev pub column_at : Bytes → ℕ → ℕ
column_at text offset = 1 + count_by is_first (after_last is_line_feed (take offset text))

abbrev pub place_at : Bytes → ℕ → Place
place_at text offset = record { line = line_at text offset; column = column_at text offset }

-- the place is that of an offset of the text, or of its end
abbrev pub IsPlaceIn : Bytes → Place → Type 0
IsPlaceIn text place = (offset : ℕ) × (offset ≤ length text) × (place ≡ place_at text offset)

-- the first offset in this line, from 1, or in a later one; the end of the text, where it has fewer
-- lines
pub record IsLineStart (text : Bytes) (line start : ℕ) : Type 0 where
  pub within : start ≤ length text
  pub before : (k : ℕ) → k < start → line_at text k < line
  pub reached : (line ≤ line_at text start) ⊎ (start ≡ length text)

-- the offset at so many bytes of a line, both from 1; none past the end of the text
abbrev pub IsOffsetOf : Bytes → ℕ → ℕ → ℕ → Type 0
IsOffsetOf text line column offset = (start : ℕ) × IsLineStart text line start
    × (offset ≡ min (start + (column - 1)) (length text))
