-- The texts of single entries; for private clauses.
use Rattle.std.specs.Prelude.{ℕ, List, [], ◌∷◌, ◌++◌, map, Option, None, Some, decimal}
use Rattle.json.specs.Print.{quoted}
use Rattle.json.specs.Token.{Token, number}
use Rattle.serde_json.specs.Data.{array, string}
use Rattle.serde_json.specs.Written.{compact_text}
use Rattle.elasticlunr_error.specs.Text.{Bytes}
use Rattle.elasticlunr_json.specs.Maps.{keyed}
use Rattle.elasticlunr_trie.specs.Table.{Table}
use Rattle.elasticlunr_store.specs.Contents.{TextMap}
use Rattle.elasticlunr_pieces.specs.Entries.{field_values}

-- the tokens of a posting
abbrev pub posting_tokens : Option ℕ → ℕ → List Token
posting_tokens None frequency = []
posting_tokens (Some n) frequency = number (decimal n) ∷ number (decimal frequency) ∷ []

-- the text of a token as a member of an object
abbrev pub token_text_of : List Bytes → List Table → Bytes → Bytes
token_text_of names tables token =
    quoted token ++ 58 ∷ compact_text (array (field_values names tables token))

-- those of some tokens
abbrev pub token_texts : List Bytes → List Table → List Bytes → List Bytes
token_texts names tables tokens = map (token_text_of names tables) tokens

-- those of some titles
abbrev pub title_texts : List Bytes → List Bytes
title_texts titles = map (λ title. compact_text (string title)) titles

-- the texts of some documents
abbrev pub document_texts : List TextMap → List Bytes
document_texts documents = map (λ document. compact_text (keyed string document)) documents
