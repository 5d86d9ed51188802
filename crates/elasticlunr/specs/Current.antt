-- What calls leave current, and what is printed after them.
use Rattle.std.specs.Prelude.{◌≡◌, ◌↔◌, ◌⊎◌, ℕ, List, [], ◌∷◌, ◌++◌, map, Option, None, Some}
use Rattle.std.specs.Prelude.{IsTrue, Contains, if◌then◌else◌}
use Rattle.std.specs.Str.{bytes_eq}
use Rattle.elasticlunr_text.specs.Text.{Text, Bytes}
use Rattle.serde_json.specs.Data.{Data}
use Rattle.elasticlunr.specs.Calls.{Call, adding, removing, compacting, AreCommandsOf}
use Rattle.elasticlunr.specs.Documents as documents
use Rattle.elasticlunr_commands.specs.Fields.{all_differ}
use Rattle.elasticlunr_commands.specs.History.{Commands, Document}
use Rattle.elasticlunr_print.specs.Printed.{IsPrintOf, IsTextAfter}
use Rattle.elasticlunr_commands.specs.Standing.{Plan}

-- the values of the reference's current document after the calls, where these were its values
-- before
abbrev pub values_after : Option (List Bytes) → List Call → Bytes → Option (List Bytes)
values_after before [] r = before
values_after before (adding s values ∷ calls) r =
    values_after (if bytes_eq r s then Some values else before) calls r
values_after before (removing s ∷ calls) r = values_after (if bytes_eq r s then None else before)
    calls r
values_after before (compacting ∷ calls) r = values_after before calls r

-- the values of the reference's current document after the calls of a new index
abbrev pub current : List Call → Bytes → Option (List Bytes)
current calls r = values_after None calls r

-- the current document of each reference has the same values after both
abbrev pub LeaveSameCurrent : (calls others : List Call) → Type 0
LeaveSameCurrent calls others = (r : Bytes) → current calls r ≡ current others r

-- the same documents, each a reference and its values, stand in both lists
abbrev pub HaveSameDocuments : (documents others : List (Bytes × List Bytes)) → Type 0
HaveSameDocuments documents others = (document : Bytes × List Bytes) → Contains documents document
    ↔ Contains others document

-- no two of the documents, each a reference and its values, have the same reference
abbrev pub HaveOwnReferences : List (Bytes × List Bytes) → Type 0
HaveOwnReferences documents = IsTrue (all_differ (map (λ document. document.0) documents))

-- the calls that add them, in order
abbrev pub additions : List (Bytes × List Bytes) → List Call
additions documents = map (λ document. adding document.0 document.1) documents

-- documents of different references are added, and nothing else is done
pub record AddEachOnce (calls : List Call) : Type 0 where
  pub documents : List (Bytes × List Bytes)
  pub differ : HaveOwnReferences documents
  pub are : calls ≡ additions documents

-- the last call is a compaction
pub record EndCompacting (calls : List Call) : Type 0 where
  pub earlier : List Call
  pub are : calls ≡ earlier ++ compacting ∷ []

-- no posting, text or length is of a document that is not current
abbrev pub LeaveOnlyCurrent : List Call → Type 0
LeaveOnlyCurrent calls = EndCompacting calls ⊎ AddEachOnce calls

-- the text is printed of an index of this plan after these calls; `reads` relates the number of a
-- field and a value to the tokens that are read of it
pub record IsPrintedAfter (reads : ℕ → Bytes → List Text → Type 0) (text_of : Data → List ℕ)
    (plan : Plan) (calls : List Call) (text : List ℕ) : Type 0 where
  pub commands : Commands
  pub were : AreCommandsOf (documents.IsDocument plan.fields plan.reference_field reads) calls
      commands
  pub printed : IsTextAfter text_of plan commands text

-- the text is printed of an index of this plan after these calls, and is read as its value
pub record IsReadableAfter (reads : ℕ → Bytes → List Text → Type 0) (plan : Plan)
    (calls : List Call) (text : List ℕ) : Type 0 where
  pub commands : Commands
  pub were : AreCommandsOf (documents.IsDocument plan.fields plan.reference_field reads) calls
      commands
  pub print : IsPrintOf plan commands text

-- what is printed after the same calls is equal: of the one plan where the one makes the documents,
-- of the other where the other does
abbrev pub SameTexts : (makes other : Bytes → List Bytes → Document → Type 0)
    (plan another_plan : Plan) → Type 0
SameTexts makes other plan another_plan = (calls : List Call) (left right : Commands)
    (text_of : Data → List ℕ) (text another : List ℕ)
    → AreCommandsOf makes calls left → AreCommandsOf other calls right
    → IsTextAfter text_of plan left text → IsTextAfter text_of another_plan right another → text
    ≡ another
