-- A value whose numbers are natural numbers.
use Rattle.serde_json.specs.Data.{Num, unsigned, negative, float, Data, null, boolean, number}
use Rattle.serde_json.specs.Data.{string, array, object, Items, no_items, item, Members, no_members}
use Rattle.serde_json.specs.Data.{member}

-- the number, or 1 where it is negative or a fraction
abbrev pub one_unless_natural : Num → Num
one_unless_natural (unsigned n) = unsigned n
one_unless_natural (negative z) = unsigned 1
one_unless_natural (float x) = unsigned 1

-- the value with 1 instead of each number that is negative or a fraction
abbrev mutual
  pub with_ones : Data → Data
  with_ones null = null
  with_ones (boolean b) = boolean b
  with_ones (number n) = number (one_unless_natural n)
  with_ones (string s) = string s
  with_ones (array ds) = array (items_with_ones ds)
  with_ones (object ms) = object (members_with_ones ms)

  pub items_with_ones : Items → Items
  items_with_ones no_items = no_items
  items_with_ones (item d ds) = item (with_ones d) (items_with_ones ds)

  pub members_with_ones : Members → Members
  members_with_ones no_members = no_members
  members_with_ones (member k d ms) = member k (with_ones d) (members_with_ones ms)
