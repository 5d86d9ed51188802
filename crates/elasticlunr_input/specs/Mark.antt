-- A text without the byte order mark that it may begin with.
use Rattle.std.specs.Prelude.{◌==◌, ◌&&◌, ◌∷◌, if◌then◌else◌}
use Rattle.elasticlunr_text.specs.Text.{Bytes}

-- the mark is the character U+FEFF, which takes these three bytes
abbrev pub without_mark : Bytes → Bytes
without_mark (a ∷ b ∷ c ∷ rest) = if (a == 0xef) && (b == 0xbb) && (c == 0xbf) then rest else a ∷ b
    ∷ c ∷ rest
without_mark text = text
