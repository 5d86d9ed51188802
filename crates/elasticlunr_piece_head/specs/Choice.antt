-- Which pieces can have a token.
use Rattle.std.specs.Prelude.{◌≡◌, ◌≢◌, ◌+◌, ◌<◌, ◌≤◌, ℕ, List, [], length, Some, Bool, true, false, nat_eq}
use Rattle.std.specs.Prelude.{IfSome, slice_get, slice_index_or}
use Rattle.std.specs.List.{starts_with}
use Rattle.std.specs.declared.cmp.Ordering.TheVariants.{Less}
use Rattle.elasticlunr_error.specs.Text.{Bytes, text_cmp}

-- The pieces have these first tokens, which rise. The piece of this number can have the token: it
-- doesn't begin above it, and the next piece, if there is one, does.
pub record CanHave (firsts : List Bytes) (token : Bytes) (number : ℕ) : Type 0 where
  pub first : Bytes
  pub is_first : slice_get firsts number ≡ Some first
  pub begins : text_cmp token first ≢ Less
  pub before : IfSome (slice_get firsts (number + 1)) (λ next. text_cmp token next ≡ Less)

-- a token is the one that is asked for, or with `expand` begins with it
abbrev pub Answers : (expand : Bool) → (asked token : Bytes) → Type 0
Answers false asked token = token ≡ asked
Answers true asked token = starts_with nat_eq token asked ≡ true

-- the piece of this number can have the token that is asked for, or with `expand` one that begins
-- with it
abbrev pub IsNeeded : (firsts : List Bytes) → (expand : Bool) → (asked : Bytes) → ℕ → Type 0
IsNeeded firsts expand asked number = (token : Bytes) × Answers expand asked token
    × CanHave firsts token number

-- it can have one of the tokens that are asked for so
abbrev pub IsNeededForOne : (firsts : List Bytes) → (expand : Bool) → (asked : List Bytes) → ℕ → Type 0
IsNeededForOne firsts expand asked number = (i : ℕ) × (i < length asked)
    × IsNeeded firsts expand (slice_index_or asked i []) number

-- the texts below this place are not above the token, and those from there on are; for private
-- clauses
pub record Splits (texts : List Bytes) (token : Bytes) (place : ℕ) : Type 0 where
  pub within : place ≤ length texts
  pub below : (k : ℕ) → k < place → text_cmp token (slice_index_or texts k []) ≢ Less
  pub above : (k : ℕ) → place ≤ k → k < length texts
      → text_cmp token (slice_index_or texts k []) ≡ Less

-- the texts from the one place to the other begin so, and the one there, if there is one, doesn't;
-- for private clauses
pub record Ends (texts : List Bytes) (beginning : Bytes) (from end : ℕ) : Type 0 where
  pub after : from ≤ end
  pub within : end ≤ length texts
  pub begin : (k : ℕ) → from ≤ k → k < end
      → starts_with nat_eq (slice_index_or texts k []) beginning ≡ true
  pub last : end < length texts
      → starts_with nat_eq (slice_index_or texts end []) beginning ≡ false
