-- What was read of the texts of an index in pieces.
use Rattle.std.specs.Prelude.{◌≡◌, ℕ, List, [], ◌∷◌, Some, length}
use Rattle.serde_json.specs.Data.{Data}
use Rattle.serde_json.specs.Read.{read}
use Rattle.elasticlunr_error.specs.Text.{Bytes, bytes_of}
use Rattle.elasticlunr_piece_head.specs.Head.{Says}
use Rattle.elasticlunr_piece_head.specs.declared.head.PieceHead.{PieceHead}
use Rattle.elasticlunr_piece_search.specs.Entries.{AreEntriesAdded, Entry}
use Rattle.elasticlunr_piece_search.specs.Pieces.{IsTokensPiece}
use Rattle.elasticlunr_trie.specs.Table.{Table}

-- the text is that of a head, which says this
abbrev pub IsReadHead : Bytes → PieceHead → Type 0
IsReadHead text head = (v : Data) × (read text ≡ Some v) × Says v head

-- pieces with these numbers and these texts were added to tables, the first of the list last
abbrev pub AreAdded : PieceHead → (text_of : ℕ → Bytes) → List ℕ → (old new : List Table) → Type 0
AreAdded head text_of [] old new = new ≡ old
AreAdded head text_of (number ∷ numbers) old new = (between : List Table) × (entries : List Entry)
    × AreAdded head text_of numbers old between
    × IsTokensPiece head (length between) number (text_of number) entries
    × AreEntriesAdded (bytes_of head.references.items) entries between new
