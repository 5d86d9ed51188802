-- Documents whose tokens were read of their values.
use Rattle.std.specs.Prelude.{◌↔◌, ℕ, List, IsSomeAnd, IfSome, Contains, slice_get}
use Rattle.elasticlunr_text.specs.Text.{Text, Bytes}
use Rattle.elasticlunr.specs.Calls.{Call, AreCommandsOf}
use Rattle.elasticlunr.specs.Documents.{IsGiven, IsDocument}
use Rattle.elasticlunr.specs.Found.{HasToken}
use Rattle.elasticlunr_commands.specs.History.{Document, Commands, none, ◌▸◌, add, remove, compact}
use Rattle.elasticlunr_commands.specs.History.{now}

-- In each definition `reads` relates the number of a field and a value to the tokens that are read
-- of it.
module _ (reads : ℕ → Bytes → List Text → Type 0) where
  -- the document has, in each field that is not the reference's, tokens that are read of its value
  abbrev pub IsRead : (fields : List Bytes) (reference_field : Bytes) → Document → Type 0
  IsRead fields reference_field document = (i : ℕ)
      → IfSome (slice_get document.given i) (IsGiven fields reference_field reads i)

  -- so has each document that was added
  abbrev pub AreRead : (fields : List Bytes) (reference_field : Bytes) → Commands → Type 0
  AreRead fields reference_field none = Unit {0}
  AreRead fields reference_field (commands ▸ add document) = IsRead fields reference_field document
      × AreRead fields reference_field commands
  AreRead fields reference_field (commands ▸ remove r) = AreRead fields reference_field commands
  AreRead fields reference_field (commands ▸ compact) = AreRead fields reference_field commands

  -- the current document of the reference has, in the field of this number, a value of which its
  -- tokens are read, and the token among these
  abbrev pub HasReadToken : Commands → ℕ → Bytes → Text → Type 0
  HasReadToken commands i r token = IsSomeAnd (now commands r)
      (λ document. IsSomeAnd (slice_get document.given i) (λ given.
      IsSomeAnd given.tokens (λ tokens. reads i given.value tokens × Contains tokens token)))

  -- where each document that was added was read so, the current one of each reference was
  abbrev pub CurrentAreRead : Type 0
  CurrentAreRead = (fields : List Bytes) (reference_field : Bytes) (commands : Commands) (r : Bytes)
      → AreRead fields reference_field commands
      → IfSome (now commands r) (IsRead fields reference_field)

  -- and a reference has a token in a field exactly if its current document has a value there of
  -- which the token is read
  abbrev pub TokensAreRead : Type 0
  TokensAreRead = (fields : List Bytes) (reference_field : Bytes) (commands : Commands) (i : ℕ)
      (r : Bytes) (token : Text)
      → AreRead fields reference_field commands → HasToken commands i r token
      ↔ HasReadToken commands i r token

  -- documents of calls that are made of what is read were read so
  abbrev pub MadeAreRead : Type 0
  MadeAreRead = (fields : List Bytes) (reference_field : Bytes) (calls : List Call)
      (commands : Commands)
      → AreCommandsOf (IsDocument fields reference_field reads) calls commands
      → AreRead fields reference_field commands
