-- The head and the pieces of an index after commands.
use Rattle.std.specs.Prelude.{◌≡◌, ℕ}
use Rattle.elasticlunr.specs.History.{Commands}
use Rattle.elasticlunr.specs.Standing.{Plan, Holds}
use Rattle.elasticlunr.specs.Text.{Bytes}
use Rattle.elasticlunr_in_pieces.specs.Folder.{HasFolder}
use Rattle.elasticlunr_in_pieces.specs.declared.all.InPieces.{InPieces}
use Rattle.elasticlunr_print.specs.Parts.{plan_of_parts}
use Rattle.elasticlunr_print.specs.declared.parts.Parts.{Parts}

-- this is printed of an index of this plan after these commands
pub record ArePartsAfter (plan : Plan) (commands : Commands) (parts : Parts) : Type 0 where
  pub its_plan : plan_of_parts parts ≡ plan
  pub holds : Holds plan commands parts.tries.now parts.store.now

-- these are the head and the pieces of such an index, with the titles of this field
pub record HasFolderAfter (title : Bytes) (size : ℕ) (made : InPieces) (plan : Plan)
    (commands : Commands) : Type 0 where
  pub parts : Parts
  pub are_parts : ArePartsAfter plan commands parts
  pub folder : HasFolder parts title size made
