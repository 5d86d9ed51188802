-- The JSON value of an index.
use Rattle.std.specs.Prelude.{◌≡◌, ◌≤◌, ℕ, List, [], ◌∷◌, Option, Some, option_and_then, codes}
use Rattle.std.specs.Prelude.{length, All, IsTrue}
use Rattle.std.specs.List.{zip}
use Rattle.elasticlunr_error.specs.Text.{Bytes}
use Rattle.elasticlunr_trie.specs.Table.{Table, IsTable}
use Rattle.elasticlunr_trie.specs.Tree.{IsTrieValue}
use Rattle.elasticlunr_store.specs.Contents.{Contents, IsStoreValue}
use Rattle.serde_json.specs.Data.{Data, string, array, object, Items, no_items, item, Members}
use Rattle.serde_json.specs.Data.{no_members, put, depth}
use Rattle.serde_json.specs.Read.{of_json, read, max_depth}
use Rattle.json.specs.Json as json
use Rattle.json.specs.Lex.{tokens}
use Rattle.json.specs.Layout.{pretty}
use Rattle.json.specs.Tree.{json_tokens}
use Rattle.serde_json.specs.Written.{outline}
use Rattle.elasticlunr_commands.specs.Fields.{all_differ}
use Rattle.elasticlunr_commands.specs.History.{Commands}
use Rattle.elasticlunr_commands.specs.Standing.{Plan, Holds}

-- the members with these pairs of key and value, put in one after the other
abbrev pub members_after : Members → List (Bytes × Data) → Members
members_after ms [] = ms
members_after ms (pair ∷ pairs) = members_after (put pair.0 pair.1 ms) pairs

-- the object with these pairs
abbrev pub object_of : List (Bytes × Data) → Data
object_of pairs = object (members_after no_members pairs)

-- the array of these texts
abbrev pub texts : List Bytes → Items
texts [] = no_items
texts (text ∷ more) = item (string text) (texts more)

-- each value is that of the table at its place
pub data AreTrieValues : List Table → List Data → Type 0 where
  no_tries : AreTrieValues [] []
  trie : {table : Table} {value : Data} {tables : List Table} {values : List Data}
      → IsTrieValue table value → AreTrieValues tables values
      → AreTrieValues (table ∷ tables) (value ∷ values)

-- the seven parts, each under its key
abbrev pub index_pairs : Plan → List Data → Data → List (Bytes × Data)
index_pairs plan tries documents =
    (codes "documentStore", documents)
    ∷ (codes "fields", array (texts plan.fields))
    ∷ (codes "index", object_of (zip plan.fields tries))
    ∷ (codes "lang", string plan.language)
    ∷ (codes "pipeline", array (texts plan.stages))
    ∷ (codes "ref", string plan.reference_field)
    ∷ (codes "version", string (codes "0.9.5"))
    ∷ []

-- the object of these parts
abbrev pub index_object : Plan → List Data → Data → Data
index_object plan tries documents = object_of (index_pairs plan tries documents)

-- the value of these tables and these contents
pub record IsValueOf (plan : Plan) (tables : List Table) (contents : Contents) (value : Data) : Type
    0 where
  pub tries : List Data
  pub documents : Data
  pub each_trie : AreTrieValues tables tries
  pub store : IsStoreValue contents documents
  pub whole : value ≡ index_object plan tries documents

-- the value of an index of this plan after these commands
pub record IsValue (plan : Plan) (commands : Commands) (value : Data) : Type 0 where
  pub tables : List Table
  pub contents : Contents
  pub holds : Holds plan commands tables contents
  pub printed : IsValueOf plan tables contents value

-- the same is printed of both: they may differ in whether texts are kept, which stands in the
-- contents
pub record PrintAlike (plan other : Plan) : Type 0 where
  pub same_fields : plan.fields ≡ other.fields
  pub same_reference_field : plan.reference_field ≡ other.reference_field
  pub same_language : plan.language ≡ other.language
  pub same_stages : plan.stages ≡ other.stages

-- the text of a value without floats, with a line for each item and member
abbrev pub pretty_text : Data → List ℕ
pretty_text value = pretty (json_tokens (outline value))

-- the value that a text is to a reader of JSON that goes this many steps deep; `read` is that of
-- `serde_json`, which goes 127
abbrev pub read_within : (limit : ℕ) → (text : List ℕ) → Option Data
read_within limit text = option_and_then of_json
    (option_and_then (λ p. json.if_last p.0 p.1) (json.value limit (tokens text)))

-- a reader that goes as deep as the value nests reads the text as this value, and no reader as
-- another; so does `serde_json`
pub record IsReadAs (text : List ℕ) (value : Data) : Type 0 where
  pub reads : depth value ≤ max_depth → read text ≡ Some value
  pub no_other : (other : Data) → read text ≡ Some other → other ≡ value
  pub reads_within : (limit : ℕ) → depth value ≤ limit → read_within limit text ≡ Some value
  pub no_other_within : (limit : ℕ) (other : Data) → read_within limit text ≡ Some other → other
      ≡ value

-- the value of an index of this plan: its names differ, and these are the tables of its fields and
-- the contents of its store
pub record IsIndexValue (plan : Plan) (tables : List Table) (contents : Contents) (value : Data) :
    Type 0 where
  pub differ : IsTrue (all_differ plan.fields)
  pub one_each : length tables ≡ length plan.fields
  pub are_tables : All IsTable tables
  pub printed : IsValueOf plan tables contents value

-- of no other tables and contents is this the value, and of no plan that prints otherwise
abbrev pub IsValueOfNoOther : Plan → List Table → Contents → Data → Type 0
IsValueOfNoOther plan tables contents value = (other : Plan) (others : List Table) (kept : Contents)
    → length others ≡ length other.fields → All IsTable others → IsValueOf other others kept value
    → PrintAlike plan other × (tables ≡ others) × (contents ≡ kept)

-- the text is that of an index's value, as `text_of` writes it, and is read as this value and no
-- other
pub record IsTextOf (text_of : Data → List ℕ) (plan : Plan) (tables : List Table)
    (contents : Contents) (text : List ℕ) : Type 0 where
  pub value : Data
  pub of_index : IsIndexValue plan tables contents value
  pub written : text ≡ text_of value
  pub read_as : IsReadAs text value

-- what a reader reads of the text, however deep it goes, is the value of no other tables and
-- contents
abbrev pub IsTextOfNoOther : Plan → List Table → Contents → List ℕ → Type 0
IsTextOfNoOther plan tables contents text = (limit : ℕ) (value : Data) → read_within limit text
    ≡ Some value → IsValueOfNoOther plan tables contents value

-- the text is that of the value after these commands, as `text_of` writes it
abbrev pub IsTextAfter : (text_of : Data → List ℕ) → Plan → Commands → List ℕ → Type 0
IsTextAfter text_of plan commands text = (value : Data) × IsValue plan commands value
    × (text ≡ text_of value)

-- the text is read as the value after these commands, and as no other
abbrev pub IsReadAfter : Plan → Commands → List ℕ → Type 0
IsReadAfter plan commands text = (value : Data) → IsValue plan commands value → IsReadAs text value

-- the text is printed of an index of this plan after these commands
pub record IsPrintOf (plan : Plan) (commands : Commands) (text : List ℕ) : Type 0 where
  pub tables : List Table
  pub contents : Contents
  pub value : Data
  pub differ : IsTrue (all_differ plan.fields)
  pub holds : Holds plan commands tables contents
  pub are_tables : All IsTable tables
  pub printed : IsValueOf plan tables contents value
  pub read_as : IsReadAs text value
