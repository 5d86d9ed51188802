-- A folder with the pieces of an index, and the head that names it.
use Rattle.std.specs.Prelude.{◌≡◌, ℕ, suc, List, [], ◌∷◌, ◌++◌, map, codes, decimal, string_bytes}
use Rattle.elasticlunr_error.specs.Text.{Bytes}
use Rattle.elasticlunr_flat.specs.Flat.{flat_list, flat_pair, flat_text, IsList, IsPair, IsText}
use Rattle.elasticlunr_pieces.specs.Entries.{documents_text, titles_text}
use Rattle.elasticlunr_pieces.specs.Pieces.{ArePieces, IsHead, tokens_text}
use Rattle.elasticlunr_pieces.specs.declared.making.Piece.{Piece}
use Rattle.elasticlunr_print.specs.declared.parts.Parts.{Parts}
use Rattle.elasticlunr_store.specs.Contents.{TextMap}
use Rattle.elasticlunr_in_pieces.specs.declared.all.InPieces.{InPieces}

-- a file, its name and its text
abbrev pub File : Type 0
File = Bytes × Bytes

-- the file of this letter and number with this text
abbrev pub file_at : (letter : Bytes) → ℕ → (text : Bytes) → File
file_at letter n text = (letter ++ (decimal n ++ codes ".json"), text)

-- the files of pieces of one kind: a letter and their numbers, from this one on
abbrev pub files_from : {A : Type 0} (letter : Bytes) (text_of : List A → Bytes) → ℕ
    → List (List A) → List File
files_from letter text_of n [] = []
files_from letter text_of n (group ∷ groups) = file_at letter n (text_of group)
    ∷ files_from letter text_of (suc n) groups

-- the files of all pieces: those of the tries, of the texts and of the titles
abbrev pub files_of : Parts → List (List Bytes) → List (List TextMap) → List (List Bytes)
    → List File
files_of parts tries texts titles = (files_from (codes "t") (tokens_text parts) 0 tries
    ++ files_from (codes "d") documents_text 0 texts)
    ++ files_from (codes "h") titles_text 0 titles

-- a folder: its name, the text of the head that names it, and its files
pub record Folder : Type 0 where
  pub name : Bytes
  pub head : Bytes
  pub files : List File

abbrev pub file_told : Piece → File
file_told piece = (string_bytes piece.name, string_bytes piece.text)

abbrev pub folder_told : InPieces → Folder
folder_told made = record {
  name = string_bytes made.head.folder;
  head = string_bytes made.head.text;
  files = map file_told made.pieces.items;
}

-- what is printed of an index has these pieces and this head, with the titles of this field
pub record HasFolder (parts : Parts) (title : Bytes) (size : ℕ) (made : InPieces) : Type 0 where
  pub tries : List (List Bytes)
  pub texts : List (List TextMap)
  pub titles : List (List Bytes)
  pub are_pieces : ArePieces parts title size tries texts titles
  pub files : (folder_told made).files ≡ files_of parts tries texts titles
  pub is_head : IsHead parts title tries texts titles made.head

-- ---- their flat form

abbrev pub flat_file : File → Bytes
flat_file = flat_pair flat_text flat_text

abbrev pub flat_folder : Folder → Bytes
flat_folder folder = flat_text folder.name ++ (flat_text folder.head
    ++ flat_list flat_file folder.files)

-- the file has a flat form
abbrev pub IsFlatFile : File → Type 0
IsFlatFile = IsPair IsText IsText

-- the folder has a flat form
pub record IsFlatFolder (folder : Folder) : Type 0 where
  pub name : IsText folder.name
  pub head : IsText folder.head
  pub files : IsList IsFlatFile folder.files
