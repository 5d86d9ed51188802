-- What is found in the value of a printed index, and in a text that has a request and an index.
use Rattle.std.specs.Prelude.{◌≡◌, ◌==◌, ℕ, Bool, List, Option, Some, All, IsTrue, codes}
use Rattle.std.specs.List.{before_first, after_first}
use Rattle.elasticlunr_text.specs.Text.{Bytes}
use Rattle.elasticlunr_lang.specs.Known.{language_name}
use Rattle.elasticlunr_lang.specs.declared.any.AnyLanguage.{AnyLanguage}
use Rattle.elasticlunr_trie.specs.Table.{Table}
use Rattle.elasticlunr_store.specs.Contents.{Contents}
use Rattle.elasticlunr.specs.Fields.{has_name}
use Rattle.elasticlunr.specs.History.{Commands}
use Rattle.elasticlunr.specs.Kept.{KeptReads}
use Rattle.elasticlunr.specs.Printed.{IsPrintOf}
use Rattle.elasticlunr.specs.Standing.{Plan}
use Rattle.elasticlunr_search.specs.Fields.{IsIndexOf}
use Rattle.elasticlunr_search.specs.Lines.{lines}
use Rattle.elasticlunr_search.specs.Readers.{ReadsAs}
use Rattle.elasticlunr_search.specs.Requests.{IsRequest}
use Rattle.elasticlunr_search.specs.Tries.{FindsInTrie, FindsWithin}
use Rattle.elasticlunr_search.specs.Words.{asked_fields, FindsInField, FindsWithinFields}
use Rattle.elasticlunr_search.specs.declared.request.Request.{Request}
use Rattle.elasticlunr_search.specs.declared.words.Join.{Join}
use Rattle.serde_json.specs.Data.{Data, string}
use Rattle.serde_json.specs.Find.{get}
use Rattle.serde_json.specs.Read.{read}

-- whatever printed text the value is of, these references are found of the query in the field,
-- where this language read the documents
abbrev pub AreFoundBy : AnyLanguage → Data → Request → List Bytes → Type 0
AreFoundBy language v request found = (plan : Plan) (commands : Commands) (text : List ℕ)
    → ReadsAs text v → IsPrintOf plan commands text
    → FindsInField (KeptReads language) request.join plan commands request.field.now
    request.query.now found

-- the value is that of an index with the field, and these references are found in the field's trie
-- by the language that the value names
pub record AreFoundOf (v : Data) (request : Request) (found : List Bytes) : Type 0 where
  pub fields : List Bytes
  pub tables : List Table
  pub contents : Contents
  pub of_index : IsIndexOf v fields tables contents
  pub is_there : IsTrue (has_name request.field.now fields)
  pub language : AnyLanguage
  pub named : get (codes "lang") v ≡ Some (string (language_name language))
  pub in_trie : FindsInTrie (KeptReads language) fields tables request.join request.field.now
      request.query.now found
  pub are_found : AreFoundBy language v request found

-- whatever printed text the value is of, these references have in one or more of the fields a token
-- of the query, or each, where this language read the documents
abbrev pub AreFoundWithinBy : AnyLanguage → Data → Join → (fields : List Bytes) → (query : Bytes)
    → (found : List Bytes) → Type 0
AreFoundWithinBy language v join fields query found = (plan : Plan) (commands : Commands)
    (text : List ℕ) → ReadsAs text v → IsPrintOf plan commands text
    → FindsWithinFields (KeptReads language) join plan commands fields query found

-- the value is that of an index, and the text has the lines of those that have, by the language
-- that it names, a token of the query, or each, in the field of this name or else in one or more of
-- all
pub record AreLinesFound (v : Data) (join : Join) (field : Option Bytes) (query text : Bytes) : Type
    0 where
  pub fields : List Bytes
  pub tables : List Table
  pub contents : Contents
  pub of_index : IsIndexOf v fields tables contents
  pub are_there : All (λ name. IsTrue (has_name name fields)) (asked_fields field fields)
  pub language : AnyLanguage
  pub named : get (codes "lang") v ≡ Some (string (language_name language))
  pub found : List Bytes
  pub in_tries : FindsWithin (KeptReads language) fields tables join (asked_fields field fields)
      query found
  pub are_found : AreFoundWithinBy language v join (asked_fields field fields) query found
  pub are_lines : text ≡ lines found

abbrev pub is_line_feed : ℕ → Bool
is_line_feed byte = byte == 10

-- the first line is the request
abbrev pub Asks : Bytes → Request → Type 0
Asks input request = (asked : Data) × (read (before_first is_line_feed input) ≡ Some asked)
    × IsRequest asked request.field.now request.query.now request.join

-- what stands below the first line has this value
abbrev pub HasBelow : Bytes → Data → Type 0
HasBelow input index = ReadsAs (after_first is_line_feed input) index

-- the first line is a request, and what stands below it the text of an index, of which these lines
-- are found
pub record IsFoundBelow (input text : Bytes) : Type 0 where
  pub request : Request
  pub index : Data
  pub found : List Bytes
  pub asks : Asks input request
  pub below : HasBelow input index
  pub are_found : AreFoundOf index request found
  pub are_lines : text ≡ lines found
