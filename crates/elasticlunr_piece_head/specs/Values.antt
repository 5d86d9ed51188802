-- The values of the members of a head.
use Rattle.std.specs.Prelude.{◌≡◌, ℕ, List, [], ◌∷◌, Option, None, Some}
use Rattle.serde_json.specs.Data.{Data, null, array, Items, no_items, item}
use Rattle.serde_json.specs.Find.{get}
use Rattle.elasticlunr_error.specs.Text.{Bytes}
use Rattle.elasticlunr_json.specs.Maps.{count}

-- an item for each
abbrev pub items_of : {A : Type 0} → (A → Data) → List A → Items
items_of value [] = no_items
items_of value (x ∷ xs) = item (value x) (items_of value xs)

-- an array with an item for each
abbrev pub array_of : {A : Type 0} → (A → Data) → List A → Data
array_of value xs = array (items_of value xs)

-- a length, or null where there is none
abbrev pub length_value : Option ℕ → Data
length_value None = null
length_value (Some n) = count n

-- the value has this member
abbrev pub Has : Data → Bytes → Data → Type 0
Has v key member = get key v ≡ Some member
