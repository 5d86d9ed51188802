-- Which pieces of the texts have the documents of some references.
use Rattle.std.specs.Prelude.{◌≡◌, ◌+◌, ◌<◌, ◌≤◌, ℕ, suc, List, [], ◌∷◌, ◌++◌, Some, length, replicate}
use Rattle.std.specs.Prelude.{slice_get, slice_index_or}
use Rattle.elasticlunr_error.specs.Text.{Bytes, bytes_of}
use Rattle.elasticlunr_piece_head.specs.Head.{documents_before}
use Rattle.elasticlunr_piece_head.specs.declared.head.PieceHead.{PieceHead}

-- the piece of the texts with this number has the document of this reference: the one stands among
-- the references that the head has for the other
pub record HasDocument (head : PieceHead) (number : ℕ) (reference : Bytes) : Type 0 where
  pub place : ℕ
  pub there : slice_get (bytes_of head.references.items) place ≡ Some reference
  pub from : documents_before head.texts.items number ≤ place
  pub end : place < documents_before head.texts.items (number + 1)

-- it has that of one of these references
abbrev pub HasOneDocument : PieceHead → List Bytes → ℕ → Type 0
HasOneDocument head references number = (i : ℕ) × (i < length references)
    × HasDocument head number (slice_index_or references i [])

-- for each document of pieces with so many documents the number of its piece, where the first piece
-- has this number; for private clauses
abbrev pub holders_from : ℕ → List ℕ → List ℕ
holders_from number [] = []
holders_from number (count ∷ counts) = replicate count number ++ holders_from (suc number) counts
