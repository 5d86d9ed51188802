-- A change of single characters as pairs: a character, followed by what replaces it.
use Rattle.std.specs.Prelude.{◌≡◌, ℕ, List, [], ◌∷◌, All, Contains, Option, MatchOption, ◌⊎◌}
use Rattle.std.specs.Prelude.{unwrap_or}
use Rattle.std.specs.Char.{InScalarRange}
use Rattle.std.specs.declared.string.String.{String}
use Rattle.std.specs.declared.alloc.Global.{Global}
use Rattle.elasticlunr_text.specs.Text.{Text, text_of}
use Rattle.elasticlunr_text.specs.Arabic.{arabic_stem}

-- a character and what replaces it
abbrev pub IsPair : (ℕ → Text) → Text → Type 0
IsPair changed pair = (c : ℕ) × InScalarRange c × (pair ≡ c ∷ changed c)

-- each of these is a pair of the change, and every character for which another text stands has its
-- pair
pub record Pairs (changed : ℕ → Text) (pairs : List Text) : Type 0 where
  pub each : All (IsPair changed) pairs
  pub whole : (c : ℕ) → InScalarRange c → Contains pairs (c ∷ changed c) ⊎ (changed c ≡ c ∷ [])

-- this replaces the character, or the character itself
abbrev pub StandsFor : Text → ℕ → Option (String Global) → Type 0
StandsFor changed c text = MatchOption text (changed ≡ c ∷ []) (λ t. text_of t ≡ changed)

-- what the Arabic stemmer makes of a character alone, and the character where it leaves nothing
abbrev pub arabic_change : ℕ → Text
arabic_change c = unwrap_or (arabic_stem (c ∷ [])) (c ∷ [])
