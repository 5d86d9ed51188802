-- What a searcher represents.
use Rattle.std.specs.Prelude.{◌≡◌, ℕ, List, Option, Some, false, All, Contains, IsTrue, slice_get}
use Rattle.std.specs.FinMap.{get}
use Rattle.std.specs.List.{AllZip}
use Rattle.elasticlunr_text.specs.Text.{Text, Bytes, bytes_of}
use Rattle.elasticlunr_text.specs.Stages.{IsRunBy, LeavesBy}
use Rattle.elasticlunr_text.specs.declared.pipeline.run.Pipeline.{Pipeline}
use Rattle.elasticlunr_trie.specs.Table.{Table}
use Rattle.elasticlunr_store.specs.Contents.{Contents, TextMap}
use Rattle.elasticlunr.specs.Fields.{has_name}
use Rattle.elasticlunr.specs.History.{Commands}
use Rattle.elasticlunr.specs.Reading.{LanguageReads}
use Rattle.elasticlunr.specs.Shape.{ArePartsOf}
use Rattle.elasticlunr.specs.Standing.{Plan}
use Rattle.elasticlunr_search.specs.Fields.{IsIndexOf}
use Rattle.elasticlunr_search.specs.Query.{IsFound, RunReads}
use Rattle.elasticlunr_search.specs.Tries.{FindsInTrie, FindsInTries, FindsWithin, Have, IsTrieOf}
use Rattle.elasticlunr_search.specs.Words.{FindsInField, FindsJoined, FindsInFields}
use Rattle.elasticlunr_search.specs.Words.{FindsWithinFields}
use Rattle.elasticlunr_search.specs.declared.printed.Printed.{Printed}
use Rattle.elasticlunr_search.specs.declared.searcher.Searcher.{Searcher}
use Rattle.elasticlunr_search.specs.declared.words.Join.{Join}
use Rattle.serde_json.specs.Data.{Data}

-- what was read holds what these commands leave in an index of this plan
abbrev pub IsReadOf : Printed → Plan → Commands → Type 0
IsReadOf printed plan commands = ArePartsOf plan commands (bytes_of printed.fields.items)
    printed.tries.items printed.store

module _ {L P X : Type 0} {O : X → Type 0} {p : _} where
  -- the names of the fields, in order
  abbrev pub fields_of : Searcher L P X O p → List Bytes
  fields_of s = bytes_of s.printed.fields.items

  -- it has a field of each of these names
  abbrev pub HasFieldsOf : Searcher L P X O p → List Bytes → Type 0
  HasFieldsOf s names = All (λ name. IsTrue (has_name name (fields_of s))) names

  -- it has no field of one of these names
  abbrev pub LacksFieldOf : Searcher L P X O p → List Bytes → Type 0
  LacksFieldOf s names = (name : Bytes) × Contains names name
      × (has_name name (fields_of s) ≡ false)

  -- the value is that of the index that it searches
  abbrev pub HasPartsOf : Data → Searcher L P X O p → Type 0
  HasPartsOf v s = IsIndexOf v (fields_of s) s.printed.tries.items s.printed.store

  -- these are the tables of its fields of these names, in order
  abbrev pub AreTriesOf : Searcher L P X O p → List Bytes → List Table → Type 0
  AreTriesOf s = AllZip (IsTrieOf (fields_of s) s.printed.tries.items)

  -- what its store holds
  abbrev pub kept_contents : Searcher L P X O p → Contents
  kept_contents s = s.printed.store

  -- the texts that its store has of a reference
  abbrev pub kept_texts : Searcher L P X O p → Bytes → Option TextMap
  kept_texts s reference = get s.printed.store.texts reference

  -- it has this language and this pipeline
  pub record IsChosen (s : Searcher L P X O p) (language : L) (pipeline : Pipeline P X O p) : Type 0
    where
      pub its_language : s.language ≡ language
      pub its_pipeline : s.pipeline ≡ pipeline

  -- it searches what these commands leave in an index of this plan
  abbrev pub Searches : Searcher L P X O p → Plan → Commands → Type 0
  Searches s plan commands = IsReadOf s.printed plan commands

  -- these are the references that have, in the trie of the field of this name, a posting at one of
  -- the tokens, or at each
  abbrev pub FindsTokens : Searcher L P X O p → Join → (field : Bytes) → (tokens : List Text)
      → (found : List Bytes) → Type 0
  FindsTokens s join field tokens found = (table : Table)
      × IsTrieOf (fields_of s) s.printed.tries.items field table × Have join table tokens found

  -- whatever it searches, these are the references whose current document has, in the field of this
  -- name, one of the tokens, or each
  abbrev pub AreFoundOfTokens : Searcher L P X O p → Join → (field : Bytes) → (tokens : List Text)
      → (found : List Bytes) → Type 0
  AreFoundOfTokens s join field tokens found = (plan : Plan) (commands : Commands)
      → Searches s plan commands
      → (i : ℕ) × (slice_get plan.fields i ≡ Some field) × FindsJoined join commands i tokens found

  -- it speaks this language: that is its own, and its pipeline makes what the language makes;
  -- `leaves_of` is the output of a language's stages for a token, `leaves` that of a boxed stage
  pub record Speaks (leaves_of : L → Text → Option Text → Type 0) (leaves : (v : X) × O v → Text
      → Option Text) (s : Searcher L P X O p) (language : L) : Type 0 where
    pub its_language : s.language ≡ language
    pub stages : LeavesBy leaves s.pipeline (leaves_of language)

  -- it searches what these commands leave in an index of this plan, by this language
  pub record StandsFor (leaves_of : L → Text → Option Text → Type 0) (leaves : (v : X) × O v → Text
      → Option Text) (s : Searcher L P X O p) (language : L) (plan : Plan) (commands : Commands) :
      Type 0 where
    pub speaks : Speaks leaves_of leaves s language
    pub read : Searches s plan commands

  module _ (tokens_of : L → Text → List Text) (leaves_of : L → Text → Option Text → Type 0)
      (leaves : (v : X) × O v → Text → Option Text) (s : Searcher L P X O p) where
    -- whatever language it speaks, these references are found of the query in the trie of the field
    abbrev pub AreFoundInTrie : Join → (field query : Bytes) → (found : List Bytes) → Type 0
    AreFoundInTrie join field query found = (language : L) → Speaks leaves_of leaves s language
        → FindsInTrie (LanguageReads (tokens_of language) (leaves_of language)) (fields_of s)
        s.printed.tries.items join field query found

    -- whatever language and pipeline it has, these references are found of what the pipeline makes
    -- of the language's tokens, in the trie of the field
    abbrev pub AreFoundAsChosen : Join → (field query : Bytes) → (found : List Bytes) → Type 0
    AreFoundAsChosen join field query found = (language : L) (pipeline : Pipeline P X O p)
        → IsChosen s language pipeline
        → FindsInTrie (RunReads (tokens_of language) (IsRunBy leaves pipeline)) (fields_of s)
        s.printed.tries.items join field query found

    -- whatever language and pipeline it has, these references are found so in one or more of the
    -- tries of the fields of these names
    abbrev pub AreFoundInTriesAsChosen : Join → (names : List Bytes) → (query : Bytes)
        → (found : List Bytes) → Type 0
    AreFoundInTriesAsChosen join names query found = (language : L) (pipeline : Pipeline P X O p)
        → IsChosen s language pipeline
        → FindsInTries (RunReads (tokens_of language) (IsRunBy leaves pipeline)) (fields_of s)
        s.printed.tries.items join names query found

    -- and in one or more of the tries of the fields of these names they have a token of the query,
    -- or each, as the join says
    abbrev pub AreFoundWithinTriesAsChosen : Join → (names : List Bytes) → (query : Bytes)
        → (found : List Bytes) → Type 0
    AreFoundWithinTriesAsChosen join names query found = (language : L)
        (pipeline : Pipeline P X O p)
        → IsChosen s language pipeline
        → FindsWithin (RunReads (tokens_of language) (IsRunBy leaves pipeline)) (fields_of s)
        s.printed.tries.items join names query found

    -- whatever language it speaks, these references are found of it in one or more of the tries of
    -- the fields of these names
    abbrev pub AreFoundInTries : Join → (names : List Bytes) → (query : Bytes)
        → (found : List Bytes) → Type 0
    AreFoundInTries join names query found = (language : L) → Speaks leaves_of leaves s language
        → FindsInTries (LanguageReads (tokens_of language) (leaves_of language)) (fields_of s)
        s.printed.tries.items join names query found

    -- whatever it searches, these references are found of the query in the field; `Finds` says it
    -- of the commands, the field's number and the query's tokens
    abbrev pub AreFound : (Finds : Commands → ℕ → List Text → List Bytes → Type 0)
        → (field query : Bytes) → (found : List Bytes) → Type 0
    AreFound Finds field query found = (language : L) (plan : Plan) (commands : Commands)
        → StandsFor leaves_of leaves s language plan commands
        → IsFound (Finds commands) (LanguageReads (tokens_of language) (leaves_of language))
        plan.fields field query found

    -- whatever it searches, where its language read the documents, these references are found of
    -- the query's text in the field
    abbrev pub AreFoundInTexts : Join → (field query : Bytes) → (found : List Bytes) → Type 0
    AreFoundInTexts join field query found = (language : L) (plan : Plan) (commands : Commands)
        → StandsFor leaves_of leaves s language plan commands
        → FindsInField (LanguageReads (tokens_of language) (leaves_of language)) join plan commands
        field query found

    -- whatever it searches, where its language read the documents, these references are found of it
    -- in one or more of the fields of these names
    abbrev pub AreFoundInFields : Join → (names : List Bytes) → (query : Bytes)
        → (found : List Bytes) → Type 0
    AreFoundInFields join names query found = (language : L) (plan : Plan) (commands : Commands)
        → StandsFor leaves_of leaves s language plan commands
        → FindsInFields (LanguageReads (tokens_of language) (leaves_of language)) join plan commands
        names query found

    -- whatever language it speaks, in one or more of the tries of the fields of these names they
    -- have a token of the query, or each, as the join says
    abbrev pub AreFoundWithinTries : Join → (names : List Bytes) → (query : Bytes)
        → (found : List Bytes) → Type 0
    AreFoundWithinTries join names query found = (language : L) → Speaks leaves_of leaves s language
        → FindsWithin (LanguageReads (tokens_of language) (leaves_of language)) (fields_of s)
        s.printed.tries.items join names query found

    -- whatever it searches, where its language read the documents, they have so a token of the
    -- query's text, or each, in one or more of the fields of these names
    abbrev pub AreFoundWithinFields : Join → (names : List Bytes) → (query : Bytes)
        → (found : List Bytes) → Type 0
    AreFoundWithinFields join names query found = (language : L) (plan : Plan) (commands : Commands)
        → StandsFor leaves_of leaves s language plan commands
        → FindsWithinFields (LanguageReads (tokens_of language) (leaves_of language)) join plan
        commands names query found
