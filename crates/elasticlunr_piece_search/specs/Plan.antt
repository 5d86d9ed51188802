-- The plan of a head.
use Rattle.std.specs.Prelude.{◌≡◌, List, IsTrue, length, string_bytes}
use Rattle.elasticlunr_commands.specs.Fields.{all_differ}
use Rattle.elasticlunr_commands.specs.Standing.{Plan}
use Rattle.elasticlunr_store.specs.Contents.{Contents}
use Rattle.elasticlunr_error.specs.Text.{Bytes, bytes_of}
use Rattle.elasticlunr_trie.specs.Table.{Table}
use Rattle.elasticlunr_piece_head.specs.declared.head.PieceHead.{PieceHead}

-- how the index of a head is built, as far as it is printed
abbrev pub plan_of : PieceHead → Contents → Plan
plan_of head contents = record {
  fields = bytes_of head.fields.items;
  reference_field = string_bytes head.ref_field;
  save = contents.save;
  language = string_bytes head.language;
  stages = bytes_of head.stages.items;
}

-- the names differ, and there is a table for each
abbrev pub AreFields : (names : List Bytes) → List Table → Type 0
AreFields names tables = IsTrue (all_differ names) × (length tables ≡ length names)
