-- The two ways in which contracts see a text: as its characters, and as its bytes.
use Rattle.std.specs.Prelude.{ℕ, Bool, true, false, List, [], ◌∷◌, map, string_bytes, bytes_eq}
use Rattle.std.specs.Ordering.{nat_cmp}
use Rattle.std.specs.declared.cmp.Ordering.{Ordering}
use Rattle.std.specs.Cmp.Lexicographic.{slice_cmp}
use Rattle.std.specs.Coded.{Coded, coded_ℕ, coded_list}
use Rattle.std.specs.List.{list_any}
use Rattle.std.specs.Str.{chars}
use Rattle.std.specs.declared.string.String.{String}
use Rattle.std.specs.declared.alloc.Global.{Global}
use Rattle.std.specs.Borrow.{Bor}

-- a text that is cut or changed, as its characters
abbrev pub Text : Type 0
Text = List ℕ

-- a text that is only compared, kept or printed, as its bytes in UTF-8
abbrev pub Bytes : Type 0
Bytes = List ℕ

-- the order of both, number by number
abbrev pub text_cmp : List ℕ → List ℕ → Ordering
text_cmp = slice_cmp nat_cmp

-- a text can be written as one number, as finite sets and maps ask of their keys
abbrev pub text_code : Coded (List ℕ)
text_code = coded_list coded_ℕ

-- the characters of a string
abbrev pub text_of : String Global → Text
text_of s = chars (string_bytes s)

-- the characters of some strings
abbrev pub texts_of : List (String Global) → List Text
texts_of ss = map text_of ss

-- the characters of some borrowed texts
abbrev pub word_texts : List (Bor Bytes) → List Text
word_texts words = map (λ word. chars word.now) words

-- the bytes of some strings
abbrev pub bytes_of : List (String Global) → List Bytes
bytes_of ss = map string_bytes ss

-- the text has a character
abbrev pub is_not_empty : Text → Bool
is_not_empty [] = false
is_not_empty (c ∷ cs) = true

-- the text stands in the list
abbrev pub is_listed : Text → List Text → Bool
is_listed text texts = list_any (bytes_eq text) texts
