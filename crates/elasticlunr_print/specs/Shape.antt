-- The parts of the value of an index, under their keys.
use Rattle.std.specs.Prelude.{◌≡◌, List, Some, IsSomeAnd, codes}
use Rattle.std.specs.List.{AllZip}
use Rattle.elasticlunr_error.specs.Text.{Bytes}
use Rattle.elasticlunr_trie.specs.Table.{Table, IsTable}
use Rattle.elasticlunr_trie.specs.Tree.{IsTrieValue}
use Rattle.elasticlunr_store.specs.Contents.{Contents, IsStoreValue}
use Rattle.serde_json.specs.Data.{Data, string, array}
use Rattle.serde_json.specs.Find.{get}
use Rattle.elasticlunr_commands.specs.History.{Commands}
use Rattle.elasticlunr_print.specs.Printed.{texts}
use Rattle.elasticlunr_commands.specs.Standing.{Plan, Holds}

-- under `fields` it has these names
abbrev pub HasFields : Data → List Bytes → Type 0
HasFields v names = get (codes "fields") v ≡ Some (array (texts names))

-- under this name it has the trie value of this table
abbrev pub HasTrie : Data → Bytes → Table → Type 0
HasTrie index name table = IsTable table × IsSomeAnd (get name index) (IsTrieValue table)

-- under `index` it has, under each name, the trie value of the table at the same place
abbrev pub HasTries : Data → List Bytes → List Table → Type 0
HasTries v names tables = IsSomeAnd (get (codes "index") v)
    (λ index. AllZip (HasTrie index) names tables)

-- under `documentStore` it has the value of these contents
abbrev pub HasStore : Data → Contents → Type 0
HasStore v contents = IsSomeAnd (get (codes "documentStore") v) (IsStoreValue contents)

-- under `lang` it has this name
abbrev pub HasLanguage : Data → Bytes → Type 0
HasLanguage v name = get (codes "lang") v ≡ Some (string name)

-- the fields, their tries and the store
pub record HasParts (v : Data) (names : List Bytes) (tables : List Table) (contents : Contents) :
    Type 0 where
  pub fields : HasFields v names
  pub tries : HasTries v names tables
  pub store : HasStore v contents

-- these are the names of the plan's fields, and the tables and the contents are what the commands
-- leave
pub record ArePartsOf (plan : Plan) (commands : Commands) (names : List Bytes) (tables : List Table)
    (contents : Contents) : Type 0 where
  pub fields : names ≡ plan.fields
  pub holds : Holds plan commands tables contents
