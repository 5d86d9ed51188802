-- A field that is searched.
use Rattle.std.specs.Prelude.{ℕ, Bool}
use Rattle.elasticlunr_error.specs.Text.{Bytes}
use Rattle.elasticlunr_trie.specs.Table.{Table}
use Rattle.elasticlunr_store.specs.Contents.{Contents}
use Rattle.elasticlunr_store.specs.declared.config.SearchBool.{SearchBool}
use Rattle.elasticlunr_ranking.specs.declared.field.SearchedField.{SearchedField}

-- its name, its table, what the store has of its documents, and how it is searched
pub record Field : Type 0 where
  pub name : Bytes
  pub table : Table
  pub contents : Contents
  pub join : SearchBool
  pub expand : Bool
  pub boost : ℕ

abbrev pub field_of : SearchedField → Field
field_of field = record {
  name = field.name.now;
  table = field.trie.now;
  contents = field.store.now;
  join = field.join;
  expand = field.expand;
  boost = field.boost;
}
