-- What a query asks for, and what is found.
use Rattle.std.specs.Prelude.{◌≡◌, ℕ, List, Some, filter, slice_get}
use Rattle.std.specs.Str.{chars}
use Rattle.elasticlunr_text.specs.Text.{Text, Bytes, is_not_empty}

-- these are the query's tokens: what is read of it, which is one list alone, without empty ones
pub record AreTokensOf (reads : ℕ → Bytes → List Text → Type 0) (i : ℕ) (query : Bytes)
    (tokens : List Text) : Type 0 where
  pub all : List Text
  pub read : reads i query all
  pub no_other : (others : List Text) → reads i query others → others ≡ all
  pub are : tokens ≡ filter is_not_empty all

-- whatever the field, the tokens that a language makes of a text are run to these; `runs` relates
-- tokens to what stages make of them
abbrev pub RunReads : (tokens_of : Text → List Text) → (runs : List Text → List Text → Type 0) → ℕ
    → Bytes → List Text → Type 0
RunReads tokens_of runs i value tokens = runs (tokens_of (chars value)) tokens

-- what is found of a query in a field; `Finds` says it of the field's number and the query's tokens
pub record IsFound (Finds : ℕ → List Text → List Bytes → Type 0) (reads : ℕ → Bytes → List Text
    → Type 0) (fields : List Bytes) (field query : Bytes) (found : List Bytes) : Type 0 where
  pub place : ℕ
  pub of_field : slice_get fields place ≡ Some field
  pub tokens : List Text
  pub of_query : AreTokensOf reads place query tokens
  pub are : Finds place tokens found
