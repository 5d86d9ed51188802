-- Texts that a terminal shows and does not obey.
use Rattle.std.specs.Prelude.{◌==◌, ◌++◌, ℕ, false, [], ◌∷◌, if◌then◌else◌}
use Rattle.std.specs.Char.{encode_utf8, is_control}
use Rattle.std.specs.Fmt.{digits}
use Rattle.elasticlunr_text.specs.Text.{Bytes}

-- the escape of a character: its number in hexadecimal between `\u{` and `}`
abbrev pub escape : ℕ → Bytes
escape c = (92 ∷ 117 ∷ 123 ∷ []) ++ digits 16 false c ++ (125 ∷ [])

-- a control character as its escape, and another one as itself
abbrev pub shown_char : ℕ → Bytes
shown_char c = if is_control c then escape c else encode_utf8 c

-- the same, but for a line feed, which stays
abbrev pub shown_in_lines : ℕ → Bytes
shown_in_lines c = if c == 10 then encode_utf8 c else shown_char c
