-- What settings read of the values of a document; for private clauses.
use Rattle.std.specs.Prelude.{◌≡◌, ℕ, List, Option, Some, slice_get, String, Vec}
use Rattle.std.specs.Borrow.{Bor}
use Rattle.std.specs.declared.alloc.Global.{Global}
use Rattle.elasticlunr_text.specs.Stages.{IsRunBy}
use Rattle.elasticlunr_text.specs.Text.{Text, Bytes}
use Rattle.elasticlunr.specs.Documents.{IsGiven}
use Rattle.elasticlunr.specs.GivenTokens.{MayHave}
use Rattle.elasticlunr.specs.Index.{choices, reads}
use Rattle.elasticlunr_state.specs.Texts.{texts_left}
use Rattle.elasticlunr.specs.declared.settings.Settings.{Settings}
use Rattle.elasticlunr.specs.declared.values.FieldValue.{FieldValue}

-- In each definition `tokens_of` is the tokens of a text in a language and `leaves` the output of a
-- boxed stage for a token.
module _ {L P X Y : Type 0} {O : X → Type 0} {F : Y → Type 0} {p : _} {g : _} (tokens_of : L → Text
    → List Text) (leaves : (v : X) × O v → Text → Option Text) where
  -- these tokens may be given with the value for the field of this number
  abbrev pub MayBeGiven : Settings L P X Y O F p g → ℕ → Bytes → Option (Vec (String Global) Global)
      → Type 0
  MayBeGiven settings i value tokens = IsGiven (choices settings).fields
      (choices settings).reference_field (reads tokens_of leaves settings) i
      (record { value = value; tokens = texts_left tokens })

  -- for the first fields the values may be given with the tokens at their places
  abbrev pub MayAllBeGiven : Settings L P X Y O F p g → List (Bor Bytes)
      → List (Option (Vec (String Global) Global)) → Type 0
  MayAllBeGiven settings values tokens = (i : ℕ) (value : Bor Bytes)
      (left : Option (Vec (String Global) Global)) → slice_get values i ≡ Some value
      → slice_get tokens i ≡ Some left → MayBeGiven settings i value.now left

  -- these tokens may be given with the value, which may come with its own, for the field of this
  -- number
  abbrev pub MayComeWith : Settings L P X Y O F p g → ℕ → FieldValue
      → Option (Vec (String Global) Global) → Type 0
  MayComeWith settings i value tokens = IsGiven (choices settings).fields
      (choices settings).reference_field
      (MayHave (reads tokens_of leaves settings) (IsRunBy leaves settings.pipeline) value.tokens) i
      (record { value = value.text.now; tokens = texts_left tokens })

  -- for the first fields the values may be given with the tokens at their places
  abbrev pub MayAllComeWith : Settings L P X Y O F p g → List FieldValue
      → List (Option (Vec (String Global) Global)) → Type 0
  MayAllComeWith settings values tokens = (i : ℕ) (value : FieldValue)
      (left : Option (Vec (String Global) Global)) → slice_get values i ≡ Some value
      → slice_get tokens i ≡ Some left → MayComeWith settings i value left
