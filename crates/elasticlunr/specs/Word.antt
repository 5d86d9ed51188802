-- The value of an index of one document, in whose one field one token is read.
use Rattle.std.specs.Prelude.{◌≡◌, ℕ, List, [], ◌∷◌, true, codes, encode_utf8}
use Rattle.std.specs.FinMap.{put as put_entry}
use Rattle.serde_json.specs.Data.{Data, number, string, object, unsigned, no_members, member, put}
use Rattle.elasticlunr_text.specs.Text.{Text, Bytes, text_cmp}
use Rattle.elasticlunr_store.specs.Contents.{store_object}
use Rattle.elasticlunr_json.specs.Maps.{members, count}
use Rattle.elasticlunr_trie.specs.Tree.{frequencies}
use Rattle.elasticlunr_lang.specs.declared.any.AnyLanguage.{AnyLanguage}
use Rattle.elasticlunr.specs.Calls.{adding}
use Rattle.elasticlunr.specs.Kept.{IsKeptPrint}
use Rattle.elasticlunr_print.specs.Printed.{index_object}
use Rattle.elasticlunr_commands.specs.Standing.{Plan}

-- the plan of an index of one field, in which documents are saved
abbrev pub one_field_plan : (language : Bytes) (stages : List Bytes) (reference_field field : Bytes)
    → Plan
one_field_plan language stages reference_field field = record {
  fields = field
      ∷ [];
  reference_field = reference_field;
  save = true;
  language = language;
  stages = stages;
}

-- the tree where the stages make this of the token: a node for each character, and at the end the
-- posting of the reference, the root of 1
abbrev pub word_tree : (left : Text) (reference : Bytes) → Data
word_tree [] reference = object (member (codes "df") (number (unsigned 1))
    (member (codes "docs") (object (frequencies ((reference, 1000000) ∷ []))) no_members))
word_tree (c ∷ left) reference =
    object (put (encode_utf8 c) (word_tree left reference)
    (member (codes "df") (number (unsigned 0))
    (member (codes "docs") (object no_members) no_members)))

-- the trie value of the token
abbrev pub word_trie : (token : Text) (reference : Bytes) → Data
word_trie token reference = object (member (codes "root") (word_tree token reference) no_members)

-- the value of the store: the value and the reference under their fields, and a length of 1
abbrev pub word_store : (reference_field field reference value : Bytes) → Data
word_store reference_field field reference value = store_object true
    (object (member reference (object
    (members string (put_entry text_cmp field value ((reference_field, reference) ∷ []))))
    no_members))
    (object (member reference (object (members count ((field, 1) ∷ []))) no_members)) 1

-- the value of the index
abbrev pub word_value : Plan → (field reference value : Bytes) (token : Text) → Data
word_value plan field reference value token = index_object plan (word_trie token reference ∷ [])
    (word_store plan.reference_field field reference value)

-- what an index of this plan and language prints after this document alone is the path of this
-- token
abbrev pub PrintsPath : AnyLanguage → Plan → (field reference value : Bytes) (token : Text) → Type 0
PrintsPath language plan field reference value token = (text_of : Data → List ℕ) (text : List ℕ)
    → IsKeptPrint language text_of plan (adding reference (value ∷ []) ∷ []) text → text
    ≡ text_of (word_value plan field reference value token)
