-- Tables of stemmers: numbered steps, each a partial function from text to text.
use Rattle.std.specs.Prelude.{ℕ, Bool, List, ◌==◌, not, if◌then◌else◌}
use Rattle.std.specs.List.{list_any}
use Rattle.elasticlunr_error.specs.Text.{Text}

-- a class of characters: those that are listed, or all but those
pub record Class : Type 0 where
  pub all_but : Bool
  pub listed : Text

-- the character is in the class
abbrev pub is_in : Class → ℕ → Bool
is_in class c =
    let stands = list_any (λ d. d == c) class.listed in
    if class.all_but then not stands else stands

-- a suffix, and the number of the step that what stands before it takes
pub record Row : Type 0 where
  pub suffix : Text
  pub step : ℕ

-- what a step does; other steps are named by their numbers
pub data Kind : Type 0 where
  add : Text → Kind
  within : ℕ → Kind
  one : Class → Kind
  twin : Class → Kind
  run : Class → Kind
  cut : ℕ → List Row → Kind
  both : ℕ → ℕ → Kind
  either : ℕ → ℕ → Kind
  fails : ℕ → Kind
  keep : ℕ → ℕ → Kind
  sweep : Class → ℕ → Kind

-- a step, and what the table declares of it: that it changes no character, only the length, and
-- that it always applies
pub record Step : Type 0 where
  pub only_shortens : Bool
  pub always_applies : Bool
  pub kind : Kind

-- where a region begins: behind what a step takes off the reversed text, and after as many
-- characters at least
pub record Mark : Type 0 where
  pub step : ℕ
  pub least : ℕ

-- a stemmer: its steps, the one that is taken before, the marks, and the main step
pub record Table : Type 0 where
  pub steps : List Step
  pub before : ℕ
  pub marks : List Mark
  pub main : ℕ
