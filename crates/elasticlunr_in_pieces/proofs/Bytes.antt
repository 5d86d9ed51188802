-- The bytes of files, one after the other.
use Rattle.std.proofs.Common.{◌≡◌, ◌<◌, ◌≤◌, ◌+◌, ℕ, List, [], ◌∷◌, ◌++◌, length, map, take, get_or, All, sym, ap, subst, ◌∙◌}
use Rattle.std.proofs.Common.{append_assoc, append-nil, Result, Err}
use Rattle.std.specs.Result.{IsErrAnd}
use Rattle.std.proofs.lemmas.List.{get_or-map, length-map, map-append, take_all, take_more}
use Rattle.std.proofs.lemmas.List.Elements.{All-push}
use Rattle.std.specs.List.{flat_map}
use Rattle.elasticlunr_error.specs.Text.{Bytes}
use Rattle.elasticlunr_flat.specs.Flat.{flat_list, flat_number, IsList, IsNumber}
use Rattle.elasticlunr_pieces.specs.declared.making.Piece.{Piece}
use Rattle.elasticlunr_in_pieces.specs.Folder.{File, file_told, flat_file, IsFlatFile}

flat_more : (files : List File) (file : File) → flat_map flat_file (files ++ file ∷ [])
    ≡ flat_map flat_file files ++ flat_file file
flat_more [] file = append-nil (flat_file file)
flat_more (first ∷ files) file = ap (λ (bytes : Bytes). flat_file first ++ bytes) (flat_more files file)
    ∙ sym (append_assoc (flat_file first) (flat_map flat_file files) (flat_file file))

told_more : (pieces : List Piece) (i : ℕ) (piece : Piece) → i < length pieces → piece ≡ get_or pieces i piece
    → map file_told (take (i + 1) pieces) ≡ map file_told (take i pieces) ++ file_told piece ∷ []
told_more pieces i piece lt is = ap (map file_told) (take_more pieces i piece lt
    ∙ ap (λ (p : Piece). take i pieces ++ p ∷ []) (sym is)) ∙ map-append file_told (take i pieces) (piece ∷ [])

-- one file more is written
pub written_more : (start : Bytes) (pieces : List Piece) (i : ℕ) (piece : Piece) (old new : Bytes) → i < length pieces
    → piece ≡ get_or pieces i piece → old ≡ start ++ flat_map flat_file (map file_told (take i pieces))
    → new ≡ old ++ flat_file (file_told piece)
    → new ≡ start ++ flat_map flat_file (map file_told (take (i + 1) pieces))
written_more start pieces i piece old new lt is so_far more =
    let before = map file_told (take i pieces) in
    more ∙ ap (λ (bytes : Bytes). bytes ++ flat_file (file_told piece)) so_far
    ∙ append_assoc start (flat_map flat_file before) (flat_file (file_told piece))
    ∙ ap (λ (bytes : Bytes). start ++ bytes) (sym (flat_more before (file_told piece)))
    ∙ ap (λ (files : List File). start ++ flat_map flat_file files) (sym (told_more pieces i piece lt is))

pub fits_more : (pieces : List Piece) (i : ℕ) (piece : Piece) → i < length pieces → piece ≡ get_or pieces i piece
    → All IsFlatFile (map file_told (take i pieces)) → IsFlatFile (file_told piece)
    → All IsFlatFile (map file_told (take (i + 1) pieces))
fits_more pieces i piece lt is so_far fits = subst (All IsFlatFile) (sym (told_more pieces i piece lt is))
    (All-push IsFlatFile (map file_told (take i pieces)) (file_told piece) so_far fits)

-- all of them are written
pub written_all : (before start now : Bytes) (pieces : List Piece) (i : ℕ) → length pieces ≤ i
    → start ≡ before ++ flat_number (length pieces)
    → now ≡ start ++ flat_map flat_file (map file_told (take i pieces))
    → now ≡ before ++ flat_list flat_file (map file_told pieces)
written_all before start now pieces i past counted written =
    let files = map file_told pieces in
    let whole : now ≡ start ++ flat_map flat_file files = written
    ∙ ap (λ (ps : List Piece). start ++ flat_map flat_file (map file_told ps)) (take_all i pieces past) in
    let many : flat_number (length pieces) ≡ flat_number (length files) =
    ap flat_number (sym (length-map pieces file_told)) in
    whole ∙ ap (λ (bytes : Bytes). bytes ++ flat_map flat_file files)
    (counted ∙ ap (λ (bytes : Bytes). before ++ bytes) many)
    ∙ append_assoc before (flat_number (length files)) (flat_map flat_file files)

pub fits_all : (pieces : List Piece) (i : ℕ) → length pieces ≤ i → IsNumber (length pieces)
    → All IsFlatFile (map file_told (take i pieces)) → IsList IsFlatFile (map file_told pieces)
fits_all pieces i past many all = (
  subst IsNumber (sym (length-map pieces file_told)) many,
  subst (λ (ps : List Piece). All IsFlatFile (map file_told ps)) (take_all i pieces past) all,
)

-- a file without a flat form, or too many files
pub not_all : (pieces : List Piece) (i : ℕ) (piece : Piece) → i < length pieces → piece ≡ get_or pieces i piece
    → ¬ IsFlatFile (file_told piece) → ¬ IsList IsFlatFile (map file_told pieces)
not_all pieces i piece lt is not fits =
    let there : i < length (map file_told pieces) = subst (λ (n : ℕ). i < n) (sym (length-map pieces file_told)) lt in
    let same : get_or (map file_told pieces) i (file_told piece) ≡ file_told piece =
    get_or-map file_told pieces i piece (file_told piece) lt ∙ ap file_told (sym is) in
    not (subst IsFlatFile same (fits.1 i (file_told piece) there))

pub not_many : (pieces : List Piece) → ¬ IsNumber (length pieces) → ¬ IsList IsFlatFile (map file_told pieces)
not_many pieces not fits = not (subst IsNumber (length-map pieces file_told) fits.0)

-- the error that a call passes on
pub error_is : {T E : Type 0} (r : Result T E) (e error : E) → IsErrAnd r (λ y. y ≡ e) → r ≡ Err error → e ≡ error
error_is {E = E} r e error is same = sym (subst (λ s. IsErrAnd s (λ (y : E). y ≡ e)) same is)
