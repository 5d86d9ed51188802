-- The head of an index that is cut into pieces, as it is read.
use Rattle.std.specs.Prelude.{◌≡◌, List, map, string_bytes}
use Rattle.elasticlunr_error.specs.Text.{Bytes, bytes_of}
use Rattle.elasticlunr_piece_head.specs.declared.head.PieceHead.{PieceHead}
use Rattle.elasticlunr_piece_search.specs.Documents.{columns_of}
use Rattle.elasticlunr_pieces.specs.Entries.{references}
use Rattle.elasticlunr_pieces.specs.Head.{firsts}
use Rattle.elasticlunr_print.specs.declared.parts.Parts.{Parts}
use Rattle.elasticlunr_store.specs.Contents.{length_at}

-- it has the fields of the index, its references, the length of each field of each document, and
-- the first token of each of these groups
pub record IsHeadOf (parts : Parts) (tries : List (List Bytes)) (head : PieceHead) : Type 0 where
  pub fields : bytes_of head.fields.items ≡ map string_bytes parts.fields.now
  pub names : bytes_of head.references.items ≡ references parts.store.now
  pub lengths : columns_of head ≡ map (λ field. map (λ r. length_at parts.store.now r field)
      (references parts.store.now)) (map string_bytes parts.fields.now)
  pub first_tokens : bytes_of head.tries.items ≡ firsts tries
