-- What references have after calls, as a search sees it.
use Rattle.std.specs.Prelude.{◌↔◌, ℕ, List, IfSome, IsSomeAnd, Contains, slice_get}
use Rattle.elasticlunr_text.specs.Text.{Text, Bytes}
use Rattle.elasticlunr.specs.Calls.{Call, AreCommandsOf}
use Rattle.elasticlunr.specs.Current.{current}
use Rattle.elasticlunr.specs.Documents.{HoldsReference, IsDocument}
use Rattle.elasticlunr_commands.specs.History.{Commands}
use Rattle.elasticlunr.specs.ReadDocuments.{HasReadToken}

-- In each definition `reads` relates the number of a field and a value to the tokens that are read
-- of it.
module _ (reads : ℕ → Bytes → List Text → Type 0) where
  -- the token is read of this value for the field of this number
  abbrev pub IsReadOf : ℕ → (value : Bytes) → Text → Type 0
  IsReadOf i value token = (tokens : List Text) × reads i value tokens × Contains tokens token

  -- after the calls the reference has a current document, which has a value for the field of this
  -- number, of which the token is read; the field does not hold the reference
  abbrev pub HasTokenAfter : (fields : List Bytes) (reference_field : Bytes) → List Call → ℕ → Bytes
      → Text → Type 0
  HasTokenAfter fields reference_field calls i r token = (¬ HoldsReference fields reference_field i)
      × IsSomeAnd (current calls r) (λ values. IsSomeAnd (slice_get values i)
      (λ value. IsReadOf i value token))

  -- the commands of calls leave a reference the tokens that it has after the calls
  abbrev pub CallsTellTokens : Type 0
  CallsTellTokens = (fields : List Bytes) (reference_field : Bytes) (calls : List Call)
      (commands : Commands) (i : ℕ) (r : Bytes) (token : Text)
      → AreCommandsOf (IsDocument fields reference_field reads) calls commands
      → HasReadToken reads commands i r token ↔ HasTokenAfter fields reference_field calls i r token

  -- there are tokens that are read of each value that is current after the calls, where its field
  -- does not hold the reference
  abbrev pub CallsAreRead : Type 0
  CallsAreRead = (fields : List Bytes) (reference_field : Bytes) (calls : List Call)
      (commands : Commands) (i : ℕ) (r : Bytes)
      → AreCommandsOf (IsDocument fields reference_field reads) calls commands
      → (¬ HoldsReference fields reference_field i)
      → IfSome (current calls r) (λ values. IfSome (slice_get values i)
      (λ value. (tokens : List Text) × reads i value tokens))
