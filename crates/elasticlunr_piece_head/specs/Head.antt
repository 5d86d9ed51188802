-- What the head of an index in pieces says.
use Rattle.std.specs.Prelude.{◌+◌, ◌<◌, ◌≤◌, ℕ, List, Option, None, map, codes, nat_lt, slice_get, string_bytes}
use Rattle.std.specs.Prelude.{sum, take, vec_len, if◌then◌else◌}
use Rattle.serde_json.specs.Data.{Data, boolean, string}
use Rattle.elasticlunr_error.specs.Text.{bytes_of}
use Rattle.elasticlunr_json.specs.Maps.{count}
use Rattle.elasticlunr_piece_head.specs.Values.{Has, array_of, length_value}
use Rattle.elasticlunr_piece_head.specs.declared.head.PieceHead.{PieceHead}

-- the value of a head has these members
pub record Says (v : Data) (head : PieceHead) : Type 0 where
  pub fields : Has v (codes "fields") (array_of string (bytes_of head.fields.items))
  pub folder : Has v (codes "folder") (string (string_bytes head.folder))
  pub language : Has v (codes "lang") (string (string_bytes head.language))
  pub lengths : Has v (codes "lengths")
      (array_of (array_of length_value) (map (λ column. column.items) head.lengths.items))
  pub stages : Has v (codes "pipeline") (array_of string (bytes_of head.stages.items))
  pub reference_field : Has v (codes "ref") (string (string_bytes head.ref_field))
  pub references : Has v (codes "references") (array_of string (bytes_of head.references.items))
  pub save : Has v (codes "save") (boolean head.save)
  pub sizes : Has v (codes "sizes") (array_of count head.sizes.items)
  pub texts : Has v (codes "texts") (array_of count head.texts.items)
  pub titles : Has v (codes "titles") (array_of count head.titles.items)
  pub tries : Has v (codes "tries") (array_of string (bytes_of head.tries.items))

-- the bytes of the piece of the tries with this number, if there is one
abbrev pub tries_size : PieceHead → ℕ → Option ℕ
tries_size head number =
    if nat_lt number (vec_len head.tries) then slice_get head.sizes.items number else None

-- those of the piece of the texts with this number
abbrev pub texts_size : PieceHead → ℕ → Option ℕ
texts_size head number = if nat_lt number (vec_len head.texts) then slice_get head.sizes.items
    (vec_len head.tries + number) else None

-- how many documents the pieces before the one with this number have
abbrev pub documents_before : List ℕ → ℕ → ℕ
documents_before counts number = sum (take number counts)

-- there is a piece of the texts with this number, and it ends among the references
abbrev pub HasDocumentsAt : PieceHead → ℕ → Type 0
HasDocumentsAt head number = (number < vec_len head.texts)
    × (documents_before head.texts.items (number + 1) ≤ vec_len head.references)
