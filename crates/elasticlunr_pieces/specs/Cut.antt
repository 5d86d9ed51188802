-- How entries are cut into groups.
use Rattle.std.specs.Prelude.{◌≡◌, ◌<◌, ◌≤◌, ◌+◌, ℕ, List, [], ◌∷◌, ◌++◌, length}
use Rattle.elasticlunr_error.specs.Text.{Bytes}

-- A group at the beginning of entries. It has at least one entry. Its text has at most this size,
-- unless it is one entry alone. With the next entry the text would have more.
pub record IsGroup {A : Type 0} (text_of : List A → Bytes) (size : ℕ) (group more : List A) :
    Type 0 where
  pub some : 0 < length group
  pub fits : 1 < length group → length (text_of group) ≤ size
  pub full : (next : A) (rest : List A) → more ≡ next ∷ rest
      → size < length (text_of (group ++ next ∷ []))

-- the entries are these groups, one after the other, and then those that are left
abbrev pub IsCutTo : {A : Type 0} (text_of : List A → Bytes) (size : ℕ) (entries : List A)
    (groups : List (List A)) (left : List A) → Type 0
IsCutTo text_of size entries [] left = entries ≡ left
IsCutTo {A = A} text_of size entries (group ∷ groups) left = (more : List A)
    × (entries ≡ group ++ more) × IsGroup text_of size group more
    × IsCutTo text_of size more groups left

-- the entries are cut into these groups
abbrev pub IsCut : {A : Type 0} (text_of : List A → Bytes) (size : ℕ) (entries : List A)
    (groups : List (List A)) → Type 0
IsCut text_of size entries groups = IsCutTo text_of size entries groups []

-- how many entries groups have
abbrev pub entries_in : {A : Type 0} → List (List A) → ℕ
entries_in [] = 0
entries_in (group ∷ groups) = length group + entries_in groups
