-- Fields in which a query finds the same.
use Rattle.std.specs.Prelude.{◌≡◌, Bool, true, false, List, None, IfSome, IsTrue}
use Rattle.std.specs.FinMap.{get, len}
use Rattle.elasticlunr_error.specs.Text.{Text, Bytes, is_listed}
use Rattle.elasticlunr_ranking.specs.Fields.{Field}
use Rattle.elasticlunr_store.specs.Contents.{field_length}
use Rattle.elasticlunr_store.specs.Options.{Options}
use Rattle.elasticlunr_trie.specs.Table.{postings, IsPrefix}

-- a token can match a word: for itself, or with `expand` for what it begins
abbrev pub CanStandFor : (expand : Bool) → (token word : Text) → Type 0
CanStandFor false token word = word ≡ token
CanStandFor true token word = IsPrefix token word

-- The fields are searched alike, have as many documents with the same lengths, and the same
-- postings at each word that one of the tokens can match.
pub record AreAlike (tokens : List Text) (field other : Field) : Type 0 where
  pub name : field.name ≡ other.name
  pub join : field.join ≡ other.join
  pub expand : field.expand ≡ other.expand
  pub boost : field.boost ≡ other.boost
  pub documents : len field.contents.texts ≡ len other.contents.texts
  pub lengths : (reference : Bytes) → field_length field.contents reference field.name
      ≡ field_length other.contents reference field.name
  pub same_postings : (token word : Text) → IsTrue (is_listed token tokens)
      → CanStandFor field.expand token word → postings field.table word ≡ postings other.table word

-- the options of each field leave it to those of the search whether tokens that go on count
abbrev pub LeaveExpansion : Options → Type 0
LeaveExpansion options = (name : Bytes)
    → IfSome (get options.fields name) (λ own. own.expand ≡ None)
