-- Which piece of the tries has a token.
use Rattle.std.specs.Prelude.{◌≡◌, ◌≢◌, ◌<◌, ◌++◌, ℕ, List, [], length, IsTrue}
use Rattle.std.specs.declared.cmp.Ordering.TheVariants.{Less, Greater}
use Rattle.std.specs.Prelude.{slice_index_or}
use Rattle.elasticlunr_error.specs.Text.{Bytes, is_listed, text_cmp}

-- a token stands in the group with this number
pub record StandsIn (groups : List (List Bytes)) (token : Bytes) (n : ℕ) : Type 0 where
  pub there : n < length groups
  pub listed : IsTrue (is_listed token (slice_index_or groups n []))

-- of first tokens that rise, the one with this number is the last that is not above a token
pub record IsLastNotAbove (firsts : List Bytes) (token : Bytes) (n : ℕ) : Type 0 where
  pub there : n < length firsts
  pub not_above : text_cmp (slice_index_or firsts n []) token ≢ Greater
  pub last : (m : ℕ) → n < m → m < length firsts → text_cmp token (slice_index_or firsts m []) ≡ Less

-- a text begins with another one
abbrev pub BeginsWith : Bytes → Bytes → Type 0
BeginsWith text beginning = (rest : Bytes) × (text ≡ beginning ++ rest)
