-- Which fields are searched, and how.
use Rattle.std.specs.Prelude.{ℕ, ◌==◌, Bool, cond, List, Option, Some, None, option_map, unwrap_or}
use Rattle.std.specs.FinMap.{get, keys, len}
use Rattle.std.specs.List.{filter_map}
use Rattle.elasticlunr_error.specs.Text.{Bytes}
use Rattle.elasticlunr_trie.specs.Table.{Table}
use Rattle.elasticlunr_store.specs.Contents.{Contents}
use Rattle.elasticlunr_store.specs.Options.{Options}
use Rattle.elasticlunr_store.specs.declared.config.SearchBool.{SearchBool}
use Rattle.elasticlunr_ranking.specs.Fields.{Field}

module _ (options : Options) (contents : Contents) (name : Bytes) (table : Table) where
  -- the field, searched as these say, or else as the options say
  abbrev pub field_with : Option SearchBool → Option Bool → Option ℕ → Field
  field_with join expand boost = record {
    name = name;
    table = table;
    contents = contents;
    join = unwrap_or join options.bool;
    expand = unwrap_or expand options.expand;
    boost = unwrap_or boost 1;
  }

  -- it is searched if there are options for it, or none for any field
  abbrev pub field_for : Option Field
  field_for = cond (len options.fields == 0) (Some (field_with None None None))
      (option_map (λ own. field_with own.bool own.expand own.boost) (get options.fields name))

-- the fields that are searched, of those with these names and tables
abbrev pub fields_for : Options → Contents → List (Bytes × Table) → List Field
fields_for options contents fields =
    filter_map (λ f. field_for options contents f.0 f.1) fields

-- the names of the fields for which there are options
abbrev pub named_fields : Options → List Bytes
named_fields options = keys options.fields
