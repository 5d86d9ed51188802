-- Which text is a piece of the texts, what a store has of it, and why another one isn't.
use Rattle.std.specs.Prelude.{◌≡◌, ◌≢◌, ◌+◌, ℕ, List, [], ◌∷◌, Option, None, Some, length}
use Rattle.std.specs.Prelude.{IfSome, if◌then◌else◌, slice_range, string_bytes}
use Rattle.std.specs.FinMap.{get}
use Rattle.std.specs.List.{AllZip}
use Rattle.serde_json.specs.Data.{string}
use Rattle.serde_json.specs.Read.{read}
use Rattle.elasticlunr_commands.specs.Fields.{has_name}
use Rattle.elasticlunr_error.specs.Text.{Bytes, bytes_of}
use Rattle.elasticlunr_json.specs.Maps.{keyed}
use Rattle.elasticlunr_piece_head.specs.Head.{HasDocumentsAt, documents_before, texts_size}
use Rattle.elasticlunr_piece_head.specs.Values.{array_of}
use Rattle.elasticlunr_piece_head.specs.declared.head.PieceHead.{PieceHead}
use Rattle.elasticlunr_store.specs.Contents.{Contents, TextMap, with_document}
use Rattle.elasticlunr_piece_search.specs.declared.fault.PieceFault.{PieceFault}
use Rattle.elasticlunr_piece_search.specs.declared.fault.PieceFault.TheVariants.{Size, NotRead}
use Rattle.elasticlunr_piece_search.specs.declared.fault.PieceFault.TheVariants.{Other, Memory}

-- the references of the documents of the piece with this number
abbrev pub references_at : PieceHead → ℕ → List Bytes
references_at head number = slice_range (bytes_of head.references.items)
    (documents_before head.texts.items number) (documents_before head.texts.items (number + 1))

-- the name under which each document has its reference, unless a field has this name
abbrev pub reference_name : PieceHead → Option Bytes
reference_name head = if has_name (string_bytes head.ref_field) (bytes_of head.fields.items)
    then None else Some (string_bytes head.ref_field)

-- the document has this reference under a name, where one is given
abbrev pub HasReference : Option Bytes → Bytes → TextMap → Type 0
HasReference name reference document = IfSome name (λ key. get document key ≡ Some reference)

-- The text is that of the piece of the texts with this number, and these are its documents: one for
-- each of the references that the head has there.
pub record IsTextsPiece (head : PieceHead) (number : ℕ) (text : Bytes) (documents : List TextMap) :
    Type 0 where
  pub size : texts_size head number ≡ Some (length text)
  pub there : HasDocumentsAt head number
  pub reads : read text ≡ Some (array_of (keyed string) documents)
  pub each : AllZip (HasReference (reference_name head)) (references_at head number) documents

-- with these documents at these references, one after the other
abbrev pub with_texts : Contents → List Bytes → List TextMap → Contents
with_texts contents [] documents = contents
with_texts contents (reference ∷ references) [] = contents
with_texts contents (reference ∷ references) (document ∷ documents) =
    with_texts (with_document contents reference document) references documents

-- Why a text isn't the piece of the texts with this number: it has another size than the head says,
-- or it has the size and is no JSON, or else no documents make it that piece.
abbrev pub IsTextsFault : PieceHead → (number : ℕ) → Bytes → PieceFault → Type 0
IsTextsFault head number text (Size n) = (texts_size head number ≡ Some n) × (length text ≢ n)
IsTextsFault head number text NotRead = (texts_size head number ≡ Some (length text))
    × (read text ≡ None)
IsTextsFault head number text Other = (documents : List TextMap)
    → ¬ IsTextsPiece head number text documents
IsTextsFault head number text Memory = Unit {0}
