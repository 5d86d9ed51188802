-- Names of fields, and texts that a call is given.
use Rattle.std.specs.Prelude.{List, [], ◌∷◌, map, Bool, true, not, ◌&&◌}
use Rattle.std.specs.Borrow.{Bor}
use Rattle.std.specs.List.{list_any}
use Rattle.std.specs.Str.{bytes_eq}
use Rattle.elasticlunr_error.specs.Text.{Bytes}

-- whether the name is one of these
abbrev pub has_name : Bytes → List Bytes → Bool
has_name name names = list_any (λ other. bytes_eq other name) names

-- no name stands twice in the list
abbrev pub all_differ : List Bytes → Bool
all_differ [] = true
all_differ (name ∷ names) = not (has_name name names) && all_differ names

-- the texts that are borrowed, in order
abbrev pub borrowed : List (Bor Bytes) → List Bytes
borrowed texts = map (λ text. text.now) texts
