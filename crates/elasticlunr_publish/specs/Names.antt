-- The names of folders of pieces, and of what is being written.
use Rattle.std.specs.Prelude.{◌≡◌, ◌≢◌, ◌<◌, ◌≤◌, ◌&&◌, ◌||◌, ℕ, Bool, true, List, ◌++◌, codes, length}
use Rattle.std.specs.Prelude.{nat_le}
use Rattle.std.specs.List.{list_all}

-- the bytes of a text
abbrev pub Bytes : Type 0
Bytes = List ℕ

-- a decimal digit
abbrev pub is_digit : ℕ → Bool
is_digit b = nat_le 48 b && nat_le b 57

-- a hexadecimal digit, in small letters
abbrev pub is_hexadecimal : ℕ → Bool
is_hexadecimal b = is_digit b || (nat_le 97 b && nat_le b 102)

-- `pieces-` and 16 hexadecimal digits
pub record IsFolderName (name : Bytes) : Type 0 where
  pub digits : Bytes
  pub spelt : name ≡ codes "pieces-" ++ digits
  pub many : length digits ≡ 16
  pub hexadecimal : list_all is_hexadecimal digits ≡ true

-- the name, a point, a number and `.new`
abbrev pub numbered : Bytes → Bytes → Bytes
numbered base number = base ++ (codes "." ++ (number ++ codes ".new"))

-- the name of what is being written for this one: it has a number
pub record IsTemporary (base name : Bytes) : Type 0 where
  pub digits : Bytes
  pub spelt : name ≡ numbered base digits
  pub some : 0 < length digits
  pub decimal : list_all is_digit digits ≡ true

-- these bytes are around the first place of the part
pub record IsAround (part text front back : Bytes) : Type 0 where
  pub split : text ≡ front ++ (part ++ back)
  pub first : (earlier later : Bytes) → text ≡ earlier ++ (part ++ later)
      → length front ≤ length earlier

-- the text lacks the part
abbrev pub Lacks : (part text : Bytes) → Type 0
Lacks part text = (front back : Bytes) → text ≢ front ++ (part ++ back)

-- the text of a head has this between the first `"folder":"` and the next quotation mark
pub record HasFolder (head name : Bytes) : Type 0 where
  pub front : Bytes
  pub after : Bytes
  pub back : Bytes
  pub opened : IsAround (codes "\"folder\":\"") head front after
  pub closed : IsAround (codes "\"") after name back
