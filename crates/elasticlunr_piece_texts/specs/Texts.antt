-- What is printed of the head of an index in pieces, and when its numbers are read again.
use Rattle.std.specs.Prelude.{◌<◌, ◌^◌, ℕ, List, length, slice_index_or}
use Rattle.std.specs.List.{AllByRecursion}
use Rattle.serde_json.specs.Data.{Data}
use Rattle.elasticlunr_error.specs.Text.{Bytes}
use Rattle.elasticlunr_pieces.specs.Entries.{references}
use Rattle.elasticlunr_pieces.specs.Folder.{folder_of}
use Rattle.elasticlunr_pieces.specs.Head.{Beginnings, counts_of, firsts, head_value}
use Rattle.elasticlunr_pieces.specs.Pieces.{all_sizes, all_texts}
use Rattle.elasticlunr_print.specs.Parts.{plan_of_parts}
use Rattle.elasticlunr_print.specs.declared.parts.Parts.{Parts}
use Rattle.elasticlunr_store.specs.Contents.{TextMap, IsContents}
use Rattle.elasticlunr_trie.specs.Table.{Table, IsTable}

-- a number of 64 bits
abbrev pub IsSmall : ℕ → Type 0
IsSmall n = n < 2 ^ 64

-- As in each program, the tries have tables and the store has contents, and what the head counts has
-- 64 bits: the references, the bytes of each piece, and how many documents a piece has.
pub record HasSmallNumbers (parts : Parts) (tries : List (List Bytes)) (texts : List (List TextMap))
    (titles : List (List Bytes)) : Type 0 where
  pub are_tables : (i : ℕ) (d : Table) → i < length parts.tries.now
      → IsTable (slice_index_or parts.tries.now i d)
  pub contents : IsContents parts.store.now
  pub references : IsSmall (length (references parts.store.now))
  pub sizes : AllByRecursion IsSmall (all_sizes parts tries texts titles)
  pub in_texts : AllByRecursion IsSmall (counts_of texts)
  pub in_titles : AllByRecursion IsSmall (counts_of titles)

-- where these pieces are and begin, as their head says
abbrev pub beginnings_of : Parts → (field : Bytes) → (tries : List (List Bytes))
    → (texts : List (List TextMap)) → (titles : List (List Bytes)) → Beginnings
beginnings_of parts field tries texts titles = record {
  folder = folder_of (all_texts parts tries texts titles);
  tries = firsts tries;
  texts = counts_of texts;
  titles = counts_of titles;
  sizes = all_sizes parts tries texts titles;
  title = field;
}

-- the value of the head of these pieces
abbrev pub printed_head : Parts → (field : Bytes) → (tries : List (List Bytes))
    → (texts : List (List TextMap)) → (titles : List (List Bytes)) → Data
printed_head parts field tries texts titles = head_value (plan_of_parts parts) parts.store.now
    (references parts.store.now) (beginnings_of parts field tries texts titles)
