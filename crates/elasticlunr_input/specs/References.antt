-- The reference as a field of its own, and the name under which an index then has the references.
use Rattle.std.specs.Prelude.{◌+◌, ◌++◌, ◌∷◌, ◌==◌, ◌&&◌, ℕ, List, [], Bool, not, length, map, find}
use Rattle.std.specs.Prelude.{codes, unwrap_or, if◌then◌else◌}
use Rattle.std.specs.Fmt.{decimal}
use Rattle.std.specs.List.{range_with_len}
use Rattle.elasticlunr_text.specs.Text.{Bytes}
use Rattle.elasticlunr.specs.Fields.{has_name}

-- the names "id", "id2", "id3" and so on, by their numbers from 1
abbrev pub numbered_name : ℕ → Bytes
numbered_name number = if number == 1 then codes "id" else codes "id" ++ decimal number

-- the first of these names that no field has; there are more names than fields
abbrev pub free_name : (fields : List Bytes) → Bytes
free_name fields = unwrap_or (find (λ name. not (has_name name fields))
    (map numbered_name (range_with_len 1 (length fields + 1)))) (codes "id")

-- the name under which an index with these fields has the references: the key of the reference, or
-- a free one where the field of this name is indexed as well
abbrev pub reference_name : (is_indexed : Bool) → (key : Bytes) → (fields : List Bytes) → Bytes
reference_name is_indexed key fields = if is_indexed && has_name key fields then free_name fields
    else key

-- the fields, and after them the key of the reference where it is to be one and none of them is it
abbrev pub with_reference : (is_indexed : Bool) → (key : Bytes) → List Bytes → List Bytes
with_reference is_indexed key fields = if is_indexed && not (has_name key fields)
    then fields ++ (key ∷ []) else fields
