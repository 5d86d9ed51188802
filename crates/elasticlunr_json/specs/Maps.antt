-- Maps of the program, as finite maps from texts, as JSON objects, and their equality test.
use Rattle.std.specs.Prelude.{ℕ, List, [], ◌∷◌, map, Bool, ◌&&◌, String, string_bytes}
use Rattle.std.specs.declared.alloc.Global.{Global}
use Rattle.std.specs.Str.{bytes_eq}
use Rattle.std.specs.Cmp.Lexicographic.{pointwise}
use Rattle.std.specs.FinMap as finite
use Rattle.serde_json.specs.Data.{Data, number, object, unsigned, Members, no_members, member}
use Rattle.elasticlunr_error.specs.Text.{Bytes, text_cmp}

-- what the entries of a map represent, each value seen by f
abbrev pub seen : {X Y : Type 0} → (X → Y) → List (String Global × X) → finite.FinMap text_cmp Y
seen f entries = finite.from_entries (map (λ e. (string_bytes e.0, f e.1)) entries)

-- each key with the value of what stands at it
abbrev pub members : {X : Type 0} → (X → Data) → List (Bytes × X) → Members
members value [] = no_members
members value (e ∷ es) = member e.0 (value e.1) (members value es)

-- the object that has the keys of a map, each with the value of what the map has there
abbrev pub keyed : {X : Type 0} → (X → Data) → finite.FinMap text_cmp X → Data
keyed value m = object (members value (finite.entries m))

-- a whole number as a value
abbrev pub count : ℕ → Data
count n = number (unsigned n)

-- two maps have the same keys, and at each key what the test takes for the same
abbrev pub same_map : {X : Type 0} → (X → X → Bool) → finite.FinMap text_cmp X
    → finite.FinMap text_cmp X → Bool
same_map same m n = pointwise (λ p q. bytes_eq p.0 q.0 && same p.1 q.1) (finite.entries m)
    (finite.entries n)
