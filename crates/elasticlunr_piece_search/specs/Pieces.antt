-- Which text is a piece of the tries, and why another one isn't.
use Rattle.std.specs.Prelude.{◌≡◌, ◌≢◌, ◌+◌, ℕ, List, None, Option, Some, length, map, slice_get}
use Rattle.std.specs.List.{AllByRecursion}
use Rattle.serde_json.specs.Read.{read}
use Rattle.elasticlunr_error.specs.Text.{Bytes, bytes_of}
use Rattle.elasticlunr_piece_head.specs.Head.{tries_size}
use Rattle.elasticlunr_piece_head.specs.declared.head.PieceHead.{PieceHead}
use Rattle.elasticlunr_piece_search.specs.Entries.{AreTokensFrom, Entry, HasLists, piece_value}
use Rattle.elasticlunr_piece_search.specs.declared.fault.PieceFault.{PieceFault}
use Rattle.elasticlunr_piece_search.specs.declared.fault.PieceFault.TheVariants.{Size, NotRead}
use Rattle.elasticlunr_piece_search.specs.declared.fault.PieceFault.TheVariants.{Other, Memory}

-- these are tokens of the piece of the tries with this number
pub record AreTokensAt (head : PieceHead) (number : ℕ) (tokens : List Bytes) : Type 0 where
  pub first : Bytes
  pub is_first : slice_get (bytes_of head.tries.items) number ≡ Some first
  pub from : AreTokensFrom first (slice_get (bytes_of head.tries.items) (number + 1)) tokens

-- the text is that of the piece of the tries with this number of an index with so many fields, and
-- these are its entries
pub record IsTokensPiece (head : PieceHead) (fields number : ℕ) (text : Bytes)
    (entries : List Entry) : Type 0 where
  pub size : tries_size head number ≡ Some (length text)
  pub reads : read text ≡ Some (piece_value entries)
  pub tokens : AreTokensAt head number (map (λ e. e.0) entries)
  pub each : AllByRecursion (HasLists (length (bytes_of head.references.items)) fields) entries

-- why a text of so many bytes has no value; for private clauses
abbrev pub IsNotRead : Option ℕ → Bytes → PieceFault → Type 0
IsNotRead size text (Size n) = (size ≡ Some n) × (length text ≢ n)
IsNotRead size text NotRead = (size ≡ Some (length text)) × (read text ≡ None)
IsNotRead size text Other = size ≡ None
IsNotRead size text Memory = Unit {0}

-- Why a text isn't the piece of the tries with this number: it has another size than the head says,
-- or it has the size and is no JSON, or else no entries make it that piece.
abbrev pub IsTokensFault : PieceHead → (fields number : ℕ) → Bytes → PieceFault → Type 0
IsTokensFault head fields number text (Size n) = (tries_size head number ≡ Some n)
    × (length text ≢ n)
IsTokensFault head fields number text NotRead = (tries_size head number ≡ Some (length text))
    × (read text ≡ None)
IsTokensFault head fields number text Other = (entries : List Entry)
    → ¬ IsTokensPiece head fields number text entries
IsTokensFault head fields number text Memory = Unit {0}
