-- The document that a reference and values make.
use Rattle.std.specs.Prelude.{◌≡◌, ℕ, List, map, slice_get, None, Some, IsSomeAnd, IfSome}
use Rattle.elasticlunr_text.specs.Text.{Text, Bytes}
use Rattle.elasticlunr_commands.specs.History.{Given, Document}

-- the field of this number holds the reference
abbrev pub HoldsReference : List Bytes → Bytes → ℕ → Type 0
HoldsReference fields reference_field i = slice_get fields i ≡ Some reference_field

-- In each definition `reads` relates the number of a field and a value to the tokens that may be
-- read of it.
module _ (fields : List Bytes) (reference_field : Bytes) (reads : ℕ → Bytes → List Text → Type 0)
  where
    -- this is given for the field: no tokens where it holds the reference, and else those of the
    -- value
    pub record IsGiven (i : ℕ) (given : Given) : Type 0 where
      pub of_reference : HoldsReference fields reference_field i → given.tokens ≡ None
      pub of_value : ¬ HoldsReference fields reference_field i
          → IsSomeAnd given.tokens (reads i given.value)

    -- the document with this reference and these values
    pub record IsDocument (reference : Bytes) (values : List Bytes) (document : Document) : Type 0
      where
        pub its_reference : document.reference ≡ reference
        pub its_values : map (λ given. given.value) document.given ≡ values
        pub each : (i : ℕ) → IfSome (slice_get document.given i) (IsGiven i)
