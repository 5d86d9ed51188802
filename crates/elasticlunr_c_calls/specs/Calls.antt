-- What a call from C answers.
use Rattle.std.specs.Prelude.{◌≡◌, ◌≤◌, ◌<◌, ◌⊎◌, ◌++◌, ℕ, length, drop}
use Rattle.elasticlunr_text.specs.Text.{Bytes}
use Rattle.elasticlunr_flat.specs.declared.fault.FlatError.{FlatError}
use Rattle.elasticlunr_flat.specs.declared.fault.FlatError.TheVariants.{Malformed, Memory}
use Rattle.elasticlunr_job.specs.Answer.{IsAnswer}
use Rattle.elasticlunr_job.specs.declared.outcome.Outcome.{Outcome}
use Rattle.elasticlunr_job.specs.declared.outcome.Outcome.TheVariants.{Printed, Refused}
use Rattle.elasticlunr_c_calls.specs.Indexes.{IsIndexed, IsMalformed}
use Rattle.elasticlunr_c_calls.specs.Pieces.{IsCutInto, IsNoCutting}
use Rattle.elasticlunr_c_calls.specs.Searches.{IsNoSearch, IsSearched}
use Rattle.elasticlunr_c_calls.specs.declared.pieces.PiecesOutcome.{PiecesOutcome}
use Rattle.elasticlunr_c_calls.specs.declared.pieces.PiecesOutcome.TheVariants as pieces
use Rattle.elasticlunr_c_calls.specs.declared.search.SearchOutcome.{SearchOutcome}
use Rattle.elasticlunr_c_calls.specs.declared.search.SearchOutcome.TheVariants.{Found}
use Rattle.elasticlunr_c_calls.specs.declared.search.SearchOutcome.TheVariants as search

-- the status of an outcome: 0 for an index, 2 for a refusal
abbrev pub HasStatus : Outcome → ℕ → Type 0
HasStatus Printed status = status ≡ 0
HasStatus (Refused _) status = status ≡ 2

-- the status of an input that is not read: 3 for malformed bytes, 1 where memory ran out
abbrev pub HasFaultStatus : FlatError → ℕ → Type 0
HasFaultStatus Malformed status = status ≡ 3
HasFaultStatus Memory status = status ≡ 1

-- the text is the answer to the job, and this is its status
abbrev pub IsAnswered : (job : Bytes) → (status : ℕ) → (text : Bytes) → Type 0
IsAnswered job status text = (outcome : Outcome) × HasStatus outcome status
    × IsAnswer job outcome text

-- the text stands at the beginning of the caller's bytes, and the others are as they were; of a
-- text that is longer than they are, nothing is written
abbrev pub IsPut : (text old new : Bytes) → Type 0
IsPut text old new = ((length text ≤ length old) × (new ≡ text ++ drop (length text) old))
    ⊎ ((length old < length text) × (new ≡ old))

-- memory ran out and nothing is written, or the answer is put into the caller's bytes, and the
-- number is its length
abbrev pub IsAnsweredInto : (job old new : Bytes) → (status number : ℕ) → Type 0
IsAnsweredInto job old new status number =
    ((status ≡ 1) × (number ≡ 0) × (new ≡ old))
    ⊎ ((text : Bytes) × IsAnswered job status text × (number ≡ length text) × IsPut text old new)

-- memory ran out and the length is as it was, or it is that of the answer
abbrev pub IsAnsweredBy : (job : Bytes) → (old new status : ℕ) → Type 0
IsAnsweredBy job old new status = ((status ≡ 1) × (new ≡ old))
    ⊎ ((text : Bytes) × IsAnswered job status text × (new ≡ length text))

-- the text answers documents in the flat form, and this is its status
abbrev pub HasIndex : (input : Bytes) → (status : ℕ) → (text : Bytes) → Type 0
HasIndex input status text = (outcome : Outcome) × HasStatus outcome status
    × IsIndexed input outcome text

-- memory ran out or the documents are not in the flat form, and the length is as it was; or it is
-- that of the answer
abbrev pub IsIndexedBy : (input : Bytes) → (old new status : ℕ) → Type 0
IsIndexedBy input old new status = ((status ≡ 1) × (new ≡ old))
    ⊎ (((status ≡ 3) × IsMalformed input × (new ≡ old))
    ⊎ ((text : Bytes) × HasIndex input status text × (new ≡ length text)))

-- the status of pieces: 0 where there are some, 2 for a refusal
abbrev pub HasPiecesStatus : PiecesOutcome → ℕ → Type 0
HasPiecesStatus pieces.Made status = status ≡ 0
HasPiecesStatus (pieces.Refused _) status = status ≡ 2
HasPiecesStatus pieces.TooLarge status = status ≡ 2

-- this answers documents in the flat form whose index is cut into pieces, and this is its status
abbrev pub HasPieces : (input : Bytes) → (status : ℕ) → (answer : Bytes) → Type 0
HasPieces input status answer = (outcome : PiecesOutcome) × HasPiecesStatus outcome status
    × IsCutInto input outcome answer

-- memory ran out or the documents are not in the flat form, and the length is as it was; or it is
-- that of the answer
abbrev pub IsCutBy : (input : Bytes) → (old new status : ℕ) → Type 0
IsCutBy input old new status = ((status ≡ 1) × (new ≡ old))
    ⊎ (((status ≡ 3) × IsNoCutting input × (new ≡ old))
    ⊎ ((answer : Bytes) × HasPieces input status answer × (new ≡ length answer)))

-- the status of a search: 0 for lines, 2 for a refusal
abbrev pub HasSearchStatus : SearchOutcome → ℕ → Type 0
HasSearchStatus Found status = status ≡ 0
HasSearchStatus (search.Refused _) status = status ≡ 2

-- the text answers a search in the flat form of the text of an index, and this is its status
abbrev pub HasHits : (index search : Bytes) → (status : ℕ) → (text : Bytes) → Type 0
HasHits index search status text = (outcome : SearchOutcome) × HasSearchStatus outcome status
    × IsSearched index search outcome text

-- memory ran out or the search is not in the flat form, and the length is as it was; or it is that
-- of the answer
abbrev pub IsSearchedBy : (index search : Bytes) → (old new status : ℕ) → Type 0
IsSearchedBy index search old new status = ((status ≡ 1) × (new ≡ old))
    ⊎ (((status ≡ 3) × IsNoSearch search × (new ≡ old))
    ⊎ ((text : Bytes) × HasHits index search status text × (new ≡ length text)))
