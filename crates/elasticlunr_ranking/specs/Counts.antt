-- Fields and tokens whose numbers have 64 bits.
use Rattle.std.specs.Prelude.{◌^◌, ◌<◌, ◌≤◌, List, All, length}
use Rattle.std.specs.FinMap.{len}
use Rattle.elasticlunr_error.specs.Text.{Text, Bytes}
use Rattle.elasticlunr_trie.specs.Table.{IsTable, postings}
use Rattle.elasticlunr_trie.specs.Tokens.{IsToken}
use Rattle.elasticlunr_store.specs.Contents.{field_length}
use Rattle.elasticlunr_ranking.specs.Fields.{Field}
use Rattle.elasticlunr_ranking.specs.Weights.{utf16_length_of}

-- the numbers of the field have 64 bits, and a word is in no more documents than there are
pub record HasCounts (field : Field) : Type 0 where
  pub is_table : IsTable field.table
  pub documents : len field.contents.texts < 2 ^ 64
  pub found : (word : Text) → len (postings field.table word) ≤ len field.contents.texts
  pub words : (word : Text) → IsToken field.table word → utf16_length_of word < 2 ^ 64
  pub lengths : (reference : Bytes) → field_length field.contents reference field.name < 2 ^ 64
  pub boost : field.boost < 2 ^ 64

-- there are fewer than 2 ^ 64 tokens, and each is shorter
abbrev pub AreShort : List Text → Type 0
AreShort tokens = (length tokens < 2 ^ 64) × All (λ token. utf16_length_of token < 2 ^ 64) tokens
