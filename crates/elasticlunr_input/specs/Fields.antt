-- The fields of objects where the settings name none.
use Rattle.std.specs.Prelude.{◌&&◌, List, [], ◌∷◌, Bool, not, map, filter, bytes_eq, is_some}
use Rattle.std.specs.Prelude.{unwrap_or}
use Rattle.serde_json.specs.Data.{Data, Members, no_members, member}
use Rattle.serde_json.specs.Find.{as_object, as_str}
use Rattle.elasticlunr_text.specs.Text.{Bytes}

-- the members of an object, each with its key, in their order
abbrev pub pairs_of : Members → List (Bytes × Data)
pairs_of no_members = []
pairs_of (member key d ms) = (key, d) ∷ pairs_of ms

-- the member is a text, and its key is not this one
abbrev pub is_field : Bytes → Bytes × Data → Bool
is_field reference_key m = is_some (as_str m.1) && not (bytes_eq m.0 reference_key)

-- the keys of the members of an object that are texts, but for that of the reference; none of what
-- is no object
abbrev pub text_keys : Bytes → Data → List Bytes
text_keys reference_key d = map (λ m. m.0)
    (filter (is_field reference_key) (pairs_of (unwrap_or (as_object d) no_members)))

-- those of the first value
abbrev pub fields_of_first : Bytes → List Data → List Bytes
fields_of_first reference_key [] = []
fields_of_first reference_key (first ∷ others) = text_keys reference_key first
