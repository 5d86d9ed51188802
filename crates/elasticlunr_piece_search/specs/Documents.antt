-- What the head of an index says of its documents.
use Rattle.std.specs.Prelude.{ℕ, List, [], ◌∷◌, Option, None, Some, map}
use Rattle.std.specs.FinMap.{empty}
use Rattle.elasticlunr_error.specs.Text.{Bytes, bytes_of}
use Rattle.elasticlunr_store.specs.Contents.{Contents, new_contents, with_document, with_length}
use Rattle.elasticlunr_piece_head.specs.declared.head.PieceHead.{PieceHead}

-- with a document of each of these references, without texts
abbrev pub with_documents : Contents → List Bytes → Contents
with_documents contents [] = contents
with_documents contents (reference ∷ references) =
    with_documents (with_document contents reference empty) references

-- with a length, if there is one
abbrev pub with_length_of : Contents → (field reference : Bytes) → Option ℕ → Contents
with_length_of contents field reference None = contents
with_length_of contents field reference (Some n) = with_length contents reference field n

-- with the lengths of a field, one for each reference in order
abbrev pub with_lengths : Contents → (field : Bytes) → List Bytes → List (Option ℕ) → Contents
with_lengths contents field [] lengths = contents
with_lengths contents field (reference ∷ references) [] = contents
with_lengths contents field (reference ∷ references) (length ∷ lengths) =
    with_lengths (with_length_of contents field reference length) field references lengths

-- with those of each field in order
abbrev pub with_all_lengths : Contents → (fields references : List Bytes) → List (List (Option ℕ))
    → Contents
with_all_lengths contents [] references columns = contents
with_all_lengths contents (field ∷ fields) references [] = contents
with_all_lengths contents (field ∷ fields) references (column ∷ columns) =
    with_all_lengths (with_lengths contents field references column) fields references columns

-- the lengths of each field of a head
abbrev pub columns_of : PieceHead → List (List (Option ℕ))
columns_of head = map (λ column. column.items) head.lengths.items

-- the documents of a head with their lengths, and without texts
abbrev pub head_contents : PieceHead → Contents
head_contents head = with_all_lengths
    (with_documents (new_contents head.save) (bytes_of head.references.items))
    (bytes_of head.fields.items) (bytes_of head.references.items) (columns_of head)
