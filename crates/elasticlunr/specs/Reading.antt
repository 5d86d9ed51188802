-- The tokens that a language reads of a value.
use Rattle.std.specs.Prelude.{◌≡◌, ℕ, List, Option, filter_map}
use Rattle.std.specs.List.{AllZip}
use Rattle.std.specs.Str.{chars}
use Rattle.elasticlunr_text.specs.Text.{Text, Bytes}

-- whatever the field, these are what the stages make of the tokens that the language makes of the
-- value; `leaves_of` relates a token to what its stages may make of it
pub record LanguageReads (tokens_of : Text → List Text) (leaves_of : Text → Option Text → Type 0)
    (i : ℕ) (value : Bytes) (tokens : List Text) : Type 0 where
  pub lefts : List (Option Text)
  pub each : AllZip leaves_of (tokens_of (chars value)) lefts
  pub are : tokens ≡ filter_map (λ left. left) lefts

-- these are what the stages make of tokens that are given; `leaves_of` relates a token to what its
-- stages may make of it
pub record LanguageLeaves (leaves_of : Text → Option Text → Type 0) (given tokens : List Text)
    : Type 0 where
  pub lefts : List (Option Text)
  pub each : AllZip leaves_of given lefts
  pub are : tokens ≡ filter_map (λ left. left) lefts

-- where the one produces tokens of a value, the other does, too
abbrev pub ReadsOnly : (reads other : ℕ → Bytes → List Text → Type 0) → Type 0
ReadsOnly reads other = (i : ℕ) (value : Bytes) (tokens : List Text) → reads i value tokens
    → other i value tokens
