-- Lower case, character by character.
use Rattle.std.specs.Prelude.{ℕ, ◌+◌, ◌==◌, ◌%◌, nat_le, Bool, ◌&&◌, ◌||◌, not, List, [], ◌∷◌}
use Rattle.std.specs.Prelude.{if◌then◌else◌}

-- the character is one of those from low to high
abbrev pub is_between : ℕ → ℕ → ℕ → Bool
is_between low high c = nat_le low c && nat_le c high

-- the character in lower case: one or two characters
unfoldable pub lower : ℕ → List ℕ
lower c =
    if is_between 0x41 0x5A c then (c + 32) ∷ []
    else if is_between 0xC0 0xDE c && not (c == 0xD7) then (c + 32) ∷ []
    else if is_between 0x100 0x12F c && (c % 2 == 0) then (c + 1) ∷ []
    else if c == 0x130 then 0x69 ∷ 0x307 ∷ []
    else if is_between 0x132 0x137 c && (c % 2 == 0) then (c + 1) ∷ []
    else if is_between 0x139 0x148 c && (c % 2 == 1) then (c + 1) ∷ []
    else if is_between 0x14A 0x177 c && (c % 2 == 0) then (c + 1) ∷ []
    else if c == 0x178 then 0xFF ∷ []
    else if ((c == 0x179) || (c == 0x17B)) || (c == 0x17D) then (c + 1) ∷ []
    else if (c == 0x218) || (c == 0x21A) then (c + 1) ∷ []
    else if is_between 0x400 0x40F c then (c + 80) ∷ []
    else if is_between 0x410 0x42F c then (c + 32) ∷ []
    else c ∷ []
