-- The JSON texts of values whose numbers are integers.
use Rattle.std.specs.Prelude.{◌<◌, ◌^◌, ℕ, pos, negsuc, List}
use Rattle.json.specs.Layout.{pretty}
use Rattle.json.specs.Tree.{json_tokens}
use Rattle.serde_json.specs.Data.{Num, unsigned, negative, float, Data, null, boolean, number}
use Rattle.serde_json.specs.Data.{string, array, object, Items, no_items, item, Members, no_members}
use Rattle.serde_json.specs.Data.{member}
use Rattle.serde_json.specs.Written.{outline}

-- an integer of 64 bits: from 0 up, or below 0
abbrev pub IsInteger : Num → Type 0
IsInteger (unsigned n) = n < 2 ^ 64
IsInteger (negative (pos n)) = ⊥
IsInteger (negative (negsuc n)) = n < 2 ^ 63
IsInteger (float x) = ⊥

-- each number is an integer of 64 bits, as in any value of a program that has no float
abbrev mutual
  pub HasIntegers : Data → Type 0
  HasIntegers null = Unit {0}
  HasIntegers (boolean b) = Unit {0}
  HasIntegers (number n) = IsInteger n
  HasIntegers (string s) = Unit {0}
  HasIntegers (array ds) = ItemsHaveIntegers ds
  HasIntegers (object ms) = MembersHaveIntegers ms

  pub ItemsHaveIntegers : Items → Type 0
  ItemsHaveIntegers no_items = Unit {0}
  ItemsHaveIntegers (item d ds) = HasIntegers d × ItemsHaveIntegers ds

  pub MembersHaveIntegers : Members → Type 0
  MembersHaveIntegers no_members = Unit {0}
  MembersHaveIntegers (member k d ms) = HasIntegers d × MembersHaveIntegers ms

-- the text of a value without floats, with a line for each item and member
abbrev pub pretty_text : Data → List ℕ
pretty_text value = pretty (json_tokens (outline value))
