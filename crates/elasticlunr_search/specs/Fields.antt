-- What the index has that a value is of.
use Rattle.std.specs.Prelude.{◌≡◌, List, Some, IsSomeAnd, false, codes}
use Rattle.std.specs.List.{AllZip}
use Rattle.elasticlunr_text.specs.Text.{Bytes}
use Rattle.elasticlunr_trie.specs.Table.{Table, IsTable}
use Rattle.elasticlunr_trie.specs.Tree.{IsTrieValue}
use Rattle.elasticlunr_store.specs.Contents.{Contents, IsConsistent}
use Rattle.elasticlunr.specs.Fields.{has_name}
use Rattle.elasticlunr.specs.Printed.{texts}
use Rattle.elasticlunr.specs.Shape.{HasFields, HasStore}
use Rattle.elasticlunr_search.specs.Whole.{with_ones}
use Rattle.serde_json.specs.Data.{Data, array}
use Rattle.serde_json.specs.Find.{get}

-- under `pipeline` it has these names of stages, in order
abbrev pub HasStages : Data → List Bytes → Type 0
HasStages v stages = get (codes "pipeline") v ≡ Some (array (texts stages))

-- under this name it has, with 1 instead of each number that is negative or a fraction, the trie
-- value of this table
abbrev pub HasWholeTrie : Data → Bytes → Table → Type 0
HasWholeTrie index name table = IsTable table
    × IsSomeAnd (get name index) (λ trie. IsTrieValue table (with_ones trie))

-- under `index` it has so, under each name, the table at the same place
abbrev pub HasWholeTries : Data → List Bytes → List Table → Type 0
HasWholeTries v names tables = IsSomeAnd (get (codes "index") v)
    (λ index. AllZip (HasWholeTrie index) names tables)

-- the value is that of an index: it has these names, tables and contents, and the contents are
-- consistent
pub record IsIndexOf (v : Data) (names : List Bytes) (tables : List Table) (contents : Contents) :
    Type 0 where
  pub fields : HasFields v names
  pub tries : HasWholeTries v names tables
  pub store : HasStore v contents
  pub consistent : IsConsistent contents

-- the value is that of an index with fields of these names
abbrev pub IsIndexWith : Data → List Bytes → Type 0
IsIndexWith v names = (tables : List Table) × (contents : Contents)
    × IsIndexOf v names tables contents

-- the value is that of an index with no field of this name
abbrev pub HasNoField : Data → Bytes → Type 0
HasNoField v field = (names : List Bytes) × IsIndexWith v names × (has_name field names ≡ false)
