-- The head of an index in pieces.
use Rattle.std.specs.Prelude.{ℕ, ◌+◌, List, [], ◌∷◌, map, Option, None, Some, codes, length}
use Rattle.serde_json.specs.Data.{Data, null, boolean, string, array, object, Items, no_items, item}
use Rattle.serde_json.specs.Data.{Members, no_members, member}
use Rattle.elasticlunr_error.specs.Text.{Bytes}
use Rattle.elasticlunr_json.specs.Maps.{count}
use Rattle.elasticlunr_store.specs.Contents.{Contents, length_at}
use Rattle.elasticlunr_commands.specs.Standing.{Plan}
use Rattle.elasticlunr_print.specs.Printed.{texts}

-- a length, or null where there is none
abbrev pub length_value : Option ℕ → Data
length_value None = null
length_value (Some n) = count n

-- the length of the field of each reference
abbrev pub field_lengths : Contents → Bytes → List Bytes → Items
field_lengths contents field [] = no_items
field_lengths contents field (r ∷ rs) = item (length_value (length_at contents r field))
    (field_lengths contents field rs)

-- those of each field
abbrev pub all_lengths : Contents → List Bytes → List Bytes → Items
all_lengths contents [] names = no_items
all_lengths contents (field ∷ fields) names = item (array (field_lengths contents field names))
    (all_lengths contents fields names)

-- the array of some numbers
abbrev pub counts : List ℕ → Items
counts [] = no_items
counts (n ∷ ns) = item (count n) (counts ns)

-- the first token of each group
abbrev pub firsts : List (List Bytes) → List Bytes
firsts [] = []
firsts ([] ∷ groups) = firsts groups
firsts ((token ∷ tokens) ∷ groups) = token ∷ firsts groups

-- how many entries each group has
abbrev pub counts_of : {A : Type 0} → List (List A) → List ℕ
counts_of groups = map (λ group. length group) groups

-- the number of the first entry of each group, if that of the first group is n
abbrev pub starts_from : {A : Type 0} → ℕ → List (List A) → List ℕ
starts_from n [] = []
starts_from n (group ∷ groups) = n ∷ starts_from (n + length group) groups

-- Where the pieces are and begin: their folder, the first token of each piece of the tries, and how
-- many references each piece of the texts has, and each piece of the titles. Of each piece in this
-- order its length in bytes; and the field of the titles.
pub record Beginnings : Type 0 where
  pub folder : Bytes
  pub tries : List Bytes
  pub texts : List ℕ
  pub titles : List ℕ
  pub sizes : List ℕ
  pub title : Bytes

-- the members of the head
abbrev pub head_members : Plan → List Bytes → Items → Beginnings → Members
head_members plan names lengths beginnings =
    member (codes "fields") (array (texts plan.fields))
    (member (codes "folder") (string beginnings.folder)
    (member (codes "lang") (string plan.language)
    (member (codes "lengths") (array lengths)
    (member (codes "pipeline") (array (texts plan.stages))
    (member (codes "ref") (string plan.reference_field)
    (member (codes "references") (array (texts names))
    (member (codes "save") (boolean plan.save)
    (member (codes "sizes") (array (counts beginnings.sizes))
    (member (codes "texts") (array (counts beginnings.texts))
    (member (codes "title") (string beginnings.title)
    (member (codes "titles") (array (counts beginnings.titles))
    (member (codes "tries") (array (texts beginnings.tries))
    (member (codes "version") (string (codes "0.9.5")) no_members)))))))))))))

-- the value of the head, for these references
abbrev pub head_value : Plan → Contents → List Bytes → Beginnings → Data
head_value plan contents names beginnings =
    object (head_members plan names (all_lengths contents plan.fields names) beginnings)
