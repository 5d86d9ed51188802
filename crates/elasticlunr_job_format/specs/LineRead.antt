-- A line as it is read.
use Rattle.std.specs.Prelude.{◌≡◌, ◌≢◌, ◌==◌, ◌⊎◌, ◌++◌, ◌∷◌, ℕ, [], All, Option, IfSome, count_by}
use Rattle.std.specs.Prelude.{true}
use Rattle.elasticlunr_error.specs.Text.{Bytes}
use Rattle.elasticlunr_job_format.specs.Lines.{is_filled}

-- no line feed stands in it
abbrev pub HasNoFeed : Bytes → Type 0
HasNoFeed line = All (λ b. b ≢ 10) line

-- the line with its line feed
abbrev pub fed : Bytes → Bytes
fed line = line ++ 10 ∷ []

-- where the bytes that were left are known, they are these
abbrev pub AreAll : Option Bytes → Bytes → Type 0
AreAll known text = IfSome known (λ bytes. bytes ≡ text)

-- the text is empty, or ends with a line feed
abbrev pub AreWhole : Bytes → Type 0
AreWhole text = (text ≡ []) ⊎ ((front : Bytes) × (text ≡ fed front))

-- what comes after a line: nothing, or a line feed and more
abbrev pub EndsLine : Bytes → Type 0
EndsLine rest = (rest ≡ []) ⊎ ((more : Bytes) × (rest ≡ 10 ∷ more))

-- where the bytes that were left are known, they begin with this line, to its end, after these
abbrev pub Begins : Option Bytes → (before line : Bytes) → Type 0
Begins known before line = IfSome known (λ bytes. (rest : Bytes) × EndsLine rest
    × (bytes ≡ before ++ (line ++ rest)))

-- of what was left these lines were read, which have so many line feeds, and then a line that is
-- not blank, but for its line feed
pub record IsLineAfter (known : Option Bytes) (before line : Bytes) (feeds : ℕ) : Type 0 where
  pub begins : Begins known before line
  pub whole : AreWhole before
  pub feeds_are : feeds ≡ count_by (λ b. b == 10) before
  pub no_feed : HasNoFeed line
  pub filled : is_filled line ≡ true
