-- The entries of the pieces of an index.
use Rattle.std.specs.Prelude.{◌↔◌, ◌⊎◌, ℕ, suc, List, [], ◌∷◌, map, Option, None, Some, IsTrue}
use Rattle.std.specs.Prelude.{if◌then◌else◌}
use Rattle.std.specs.List.Sorted.{IsStrictlySortedBy}
use Rattle.std.specs.FinMap.{entries, get}
use Rattle.std.specs.Prelude.{unwrap_or}
use Rattle.elasticlunr_print.specs.Printed.{texts}
use Rattle.std.specs.Str.{bytes_eq, chars, IsUtf8}
use Rattle.serde_json.specs.Data.{Data, string, array, object, Items, no_items, item, Members}
use Rattle.serde_json.specs.Data.{no_members, member}
use Rattle.serde_json.specs.Written.{compact_text}
use Rattle.elasticlunr_error.specs.Text.{Bytes, Text, is_listed, text_cmp}
use Rattle.elasticlunr_json.specs.Maps.{count, keyed}
use Rattle.elasticlunr_trie.specs.Table.{Table, postings}
use Rattle.elasticlunr_trie.specs.Tokens.{IsToken}
use Rattle.elasticlunr_store.specs.Contents.{Contents, TextMap}

-- the references of the documents, in the order of their bytes
abbrev pub references : Contents → List Bytes
references contents = map (λ e. e.0) (entries contents.texts)

-- the place of a reference in a list whose first place has this number
abbrev pub number_from : ℕ → List Bytes → Bytes → Option ℕ
number_from n [] r = None
number_from n (q ∷ qs) r = if bytes_eq q r then Some n else number_from (suc n) qs r

-- the number of a reference: its place among the references, from 0
abbrev pub number_of : List Bytes → Bytes → Option ℕ
number_of = number_from 0

-- a number and a frequency, and the items after them; nothing where there is no number
abbrev pub with_number : Option ℕ → ℕ → Items → Items
with_number None frequency more = more
with_number (Some n) frequency more = item (count n) (item (count frequency) more)

-- the number of each reference and its frequency in turn
abbrev pub numbered : List Bytes → List (Bytes × ℕ) → Items
numbered names [] = no_items
numbered names (p ∷ ps) = with_number (number_of names p.0) p.1 (numbered names ps)

-- the postings of a token in the table of a field
abbrev pub field_value : List Bytes → Table → Bytes → Data
field_value names table token = array (numbered names (entries (postings table (chars token))))

-- the postings of a token in each field
abbrev pub field_values : List Bytes → List Table → Bytes → Items
field_values names [] token = no_items
field_values names (table ∷ tables) token = item (field_value names table token)
    (field_values names tables token)

-- the members of a piece of the tries: each token with its postings in each field
abbrev pub token_members : List Bytes → List Table → List Bytes → Members
token_members names tables [] = no_members
token_members names tables (token ∷ tokens) = member token
    (array (field_values names tables token)) (token_members names tables tokens)

-- the text of a piece of the tries
abbrev pub tries_text : List Bytes → List Table → List Bytes → Bytes
tries_text names tables tokens = compact_text (object (token_members names tables tokens))

-- the items of a piece of the texts: the documents
abbrev pub documents_items : List TextMap → Items
documents_items [] = no_items
documents_items (document ∷ documents) = item (keyed string document) (documents_items documents)

-- the text of a piece of the texts
abbrev pub documents_text : List TextMap → Bytes
documents_text documents = compact_text (array (documents_items documents))

-- the documents whose texts are kept, in the order of their references
abbrev pub kept_documents : Contents → List TextMap
kept_documents contents = if contents.save then map (λ e. e.1) (entries contents.texts) else []

-- the title of a document: its text in this field, or an empty one
abbrev pub title_of : Bytes → TextMap → Bytes
title_of field document = unwrap_or (get document field) []

-- the titles of the documents whose texts are kept, where the index has such a field
abbrev pub kept_titles : List Bytes → Bytes → Contents → List Bytes
kept_titles fields field contents =
    if is_listed field fields then map (title_of field) (kept_documents contents) else []

-- the text of a piece of the titles
abbrev pub titles_text : List Bytes → Bytes
titles_text titles = compact_text (array (texts titles))

-- a token of one of the tables
abbrev pub IsTokenIn : List Table → Text → Type 0
IsTokenIn [] token = ⊥
IsTokenIn (table ∷ tables) token = IsToken table token ⊎ IsTokenIn tables token

-- the bytes of a token of one of the tables
abbrev pub IsTokenOf : List Table → Bytes → Type 0
IsTokenOf tables token = IsUtf8 token × IsTokenIn tables (chars token)

-- the tokens of the tables, each once, in the order of their bytes
pub record AreTokens (tables : List Table) (tokens : List Bytes) : Type 0 where
  pub order : IsStrictlySortedBy text_cmp tokens
  pub all : (token : Bytes) → IsTrue (is_listed token tokens) ↔ IsTokenOf tables token
