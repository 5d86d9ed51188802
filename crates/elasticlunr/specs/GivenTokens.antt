-- The tokens that come with the values of a document.
use Rattle.std.specs.Prelude.{◌≡◌, ℕ, List, map, slice_get, IsSomeAnd, IsTrue}
use Rattle.std.specs.List.{AllByRecursion}
use Rattle.std.specs.Str.{all_scalars}
use Rattle.elasticlunr_text.specs.Text.{Text, Bytes, word_texts}
use Rattle.elasticlunr.specs.declared.values.FieldValue.{FieldValue}
use Rattle.elasticlunr.specs.declared.values.TokenSource.{TokenSource}
use Rattle.elasticlunr.specs.declared.values.TokenSource.TheVariants.{FromText, IntoPipeline}
use Rattle.elasticlunr.specs.declared.values.TokenSource.TheVariants.{AsGiven}

-- the texts of values, in order
abbrev pub value_texts : List FieldValue → List Bytes
value_texts values = map (λ value. value.text.now) values

-- tokens that are texts go through a pipeline; `runs` relates them to those that it may output
pub record GoThrough (runs : List Text → List Text → Type 0) (given tokens : List Text) : Type 0
  where
    pub are_texts : AllByRecursion (λ token. IsTrue (all_scalars token)) given
    pub left : runs given tokens

-- In each definition `reads` relates the number of a field and a value to the tokens that may be
-- read of it, and `runs` relates tokens to those that the pipeline may output.
module _ (reads : ℕ → Bytes → List Text → Type 0) (runs : List Text → List Text → Type 0) where
  -- a text of the field of this number may have these tokens
  abbrev pub MayHave : TokenSource → ℕ → (text : Bytes) → (tokens : List Text) → Type 0
  MayHave FromText i text tokens = reads i text tokens
  MayHave (IntoPipeline given) i text tokens = GoThrough runs (word_texts given.now) tokens
  MayHave (AsGiven given) i text tokens = tokens ≡ word_texts given.now

  -- the value at the place of the field of this number may have these tokens
  abbrev pub MayHaveAt : List FieldValue → ℕ → (text : Bytes) → (tokens : List Text) → Type 0
  MayHaveAt values i text tokens = IsSomeAnd (slice_get values i)
      (λ value. MayHave value.tokens i text tokens)
