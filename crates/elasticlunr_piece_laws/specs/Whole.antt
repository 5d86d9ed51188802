-- An index that is cut into pieces.
use Rattle.std.specs.Prelude.{◌<◌, ℕ, length, slice_index_or}
use Rattle.std.specs.FinMap.{entries}
use Rattle.std.specs.Str.{chars}
use Rattle.elasticlunr_error.specs.Text.{Bytes}
use Rattle.elasticlunr_pieces.specs.Entries.{references}
use Rattle.elasticlunr_pieces.specs.Telling.{HasNumbers}
use Rattle.elasticlunr_print.specs.declared.parts.Parts.{Parts}
use Rattle.elasticlunr_trie.specs.Table.{Table, IsTable, postings}

-- its tries have tables, and the reference of each posting is that of a document
pub record IsWhole (parts : Parts) : Type 0 where
  pub are_tables : (i : ℕ) (d : Table) → i < length parts.tries.now
      → IsTable (slice_index_or parts.tries.now i d)
  pub numbers : (i : ℕ) (d : Table) (token : Bytes) → i < length parts.tries.now
      → HasNumbers (references parts.store.now)
      (entries (postings (slice_index_or parts.tries.now i d) (chars token)))
