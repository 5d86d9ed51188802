-- The lines of a text, and what they are read as.
use Rattle.std.specs.Prelude.{◌≡◌, ◌==◌, ◌||◌, ℕ, Bool, true, false, List, Option, Some, map}
use Rattle.std.specs.Prelude.{filter, if◌then◌else◌}
use Rattle.std.specs.List.{list_all, slice_split}
use Rattle.serde_json.specs.Data.{Data}
use Rattle.elasticlunr_error.specs.Text.{Bytes}
use Rattle.elasticlunr_job_format.specs.Reading.{reading}

-- a space, a tab, a carriage return or a line feed
abbrev pub is_space : ℕ → Bool
is_space b = (b == 32) || (b == 9) || (b == 13) || (b == 10)

abbrev pub is_blank : Bytes → Bool
is_blank line = list_all is_space line

abbrev pub is_filled : Bytes → Bool
is_filled line = if is_blank line then false else true

-- the parts of a text between line feeds
abbrev pub lines_of : Bytes → List Bytes
lines_of text = slice_split (λ b. b == 10) text

-- those of them that are not blank
abbrev pub filled_lines : Bytes → List Bytes
filled_lines text = filter is_filled (lines_of text)

-- what they are read as
abbrev pub readings : Bytes → List (Option Data)
readings text = map reading (filled_lines text)

-- these are the values of the lines of the text, without the blank ones
abbrev pub AreLineValues : Bytes → List Data → Type 0
AreLineValues text items = map Some items ≡ readings text
