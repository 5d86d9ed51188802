-- The name that was meant.
use Rattle.std.specs.Prelude.{◌≡◌, ◌<◌, ◌≤◌, ◌/◌, ◌++◌, ◌∷◌, [], ℕ, List, Option, Some, None, All}
use Rattle.std.specs.Prelude.{length, map, max, if◌then◌else◌, bytes_eq, nat_eq}
use Rattle.std.specs.Char.{to_ascii_lowercase}
use Rattle.std.specs.Str.{chars}
use Rattle.elasticlunr_text.specs.Text.{Bytes}
use Rattle.strsim.specs.Edits.{damerau}

-- how many edits lead from some characters to others: one more, one less, another one, or two
-- neighbours the other way round
abbrev pub between : List ℕ → List ℕ → ℕ
between [] others = length others
between (c ∷ those) [] = length (c ∷ those)
between (c ∷ those) (d ∷ others) = damerau nat_eq (c ∷ those) (d ∷ others)

-- and from one text to another, which are none where they are equal
abbrev pub edits : Bytes → Bytes → ℕ
edits text other = if bytes_eq text other then 0 else between (chars text) (chars other)

-- a text with small letters for capitals
abbrev pub small : Bytes → Bytes
small text = map to_ascii_lowercase text

-- so many edits are few: a third of the bytes, and one at least
abbrev pub few : Bytes → ℕ
few asked = max (length asked / 3) 1

-- the first of the names that are least far, if that is no further than so far
abbrev pub IsNearest : {Name : Type 0} → (far : Name → ℕ) → ℕ → List Name → Option Name → Type 0
IsNearest far most names None = All (λ name. most < far name) names
IsNearest {Name} far most names (Some found) = (before : List Name) × (behind : List Name)
    × (names ≡ before ++ found ∷ behind)
    × (far found ≤ most)
    × All (λ name. far found < far name) before
    × All (λ name. far found ≤ far name) behind
