-- The head and the pieces of the index that documents in the flat form ask for.
use Rattle.std.specs.Prelude.{◌≡◌, codes}
use Rattle.elasticlunr.specs.Text.{Bytes}
use Rattle.elasticlunr_flat.specs.Flat as flat
use Rattle.elasticlunr_in_pieces.specs.Folder.{folder_told, flat_folder, IsFlatFolder}
use Rattle.elasticlunr_in_pieces.specs.declared.all.InPieces.{InPieces}
use Rattle.elasticlunr_job.specs.Answer.{line, refusal_text}
use Rattle.elasticlunr_c_calls.specs.Folders.{HasFolderAfter}
use Rattle.elasticlunr_c_calls.specs.Indexes.{FailsAt, IsMadeOf}
use Rattle.elasticlunr_c_calls.specs.declared.pieces.PiecesOutcome.{PiecesOutcome}
use Rattle.elasticlunr_c_calls.specs.declared.pieces.PiecesOutcome.TheVariants.{Made, Refused}
use Rattle.elasticlunr_c_calls.specs.declared.pieces.PiecesOutcome.TheVariants.{TooLarge}

-- the bytes are the flat form of these documents and of how their index is cut
pub record IsFormOfCutting (bytes : Bytes) (cutting : flat.Cutting) : Type 0 where
  pub fits : flat.IsCutting cutting
  pub are : bytes ≡ flat.flat_cutting cutting

-- the bytes are not in the flat form
abbrev pub IsNoCutting : Bytes → Type 0
IsNoCutting bytes = (cutting : flat.Cutting) → ¬ IsFormOfCutting bytes cutting

-- the documents pass all checks, and these are the head and the pieces of their index
abbrev pub IsFolderOf : flat.Cutting → InPieces → Type 0
IsFolderOf cutting made = IsMadeOf cutting.input (HasFolderAfter cutting.title cutting.size made)

-- a head and pieces have this outcome, and this is their flat form
abbrev pub IsTold : InPieces → PiecesOutcome → Bytes → Type 0
IsTold made Made answer = IsFlatFolder (folder_told made)
    × (answer ≡ flat_folder (folder_told made))
IsTold made TooLarge answer = (¬ IsFlatFolder (folder_told made))
    × (answer ≡ line (codes "refused: too large for the flat form"))
IsTold made (Refused refusal) answer = ⊥

-- documents in the flat form have this outcome, and this answers them
abbrev pub IsCutInto : Bytes → PiecesOutcome → Bytes → Type 0
IsCutInto bytes (Refused refusal) answer = (cutting : flat.Cutting)
    × IsFormOfCutting bytes cutting × FailsAt cutting.input refusal
    × (answer ≡ line (refusal_text refusal))
IsCutInto bytes outcome answer = (cutting : flat.Cutting) × IsFormOfCutting bytes cutting
    × ((made : InPieces) × IsFolderOf cutting made × IsTold made outcome answer)
