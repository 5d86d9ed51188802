-- How the end or the first letter of a word changes, and its cut as the stemmer has it; for private
-- clauses.
use Rattle.std.specs.Prelude.{◌≡◌, ℕ, List, [], ◌∷◌, ◌++◌, chars, string_len, string_capacity}
use Rattle.std.specs.declared.string.String.{String}
use Rattle.std.specs.declared.alloc.Global.{Global}
use Rattle.elasticlunr_text.specs.Suffixes.{Ending}
use Rattle.elasticlunr_text.specs.Stems.{IsCut, Rule}
use Rattle.elasticlunr_text.specs.declared.lang.en.endings.Cut.{Cut}

-- what stands before the last letter is left
abbrev pub LosesLast : Rule
LosesLast w v = (front : List ℕ) (c : ℕ) → w ≡ front ++ c ∷ [] → v ≡ front

-- the letter stands instead of the first one
abbrev pub SetsFirst : ℕ → Rule
SetsFirst letter w v = (c : ℕ) (rest : List ℕ) → w ≡ c ∷ rest → v ≡ letter ∷ rest

-- the ending stands instead of the suffix
abbrev pub Exchanges : List ℕ → List ℕ → Rule
Exchanges suffix ending w v = (s : List ℕ) → w ≡ s ++ suffix → v ≡ s ++ ending

-- this is the cut of the word
abbrev pub IsCutOf : List Ending → List ℕ → Cut → Type 0
IsCutOf endings w cut = IsCut endings w (chars cut.stem.now) cut.suffix.now cut.ending.now

-- the string is as long, and has room for as much
abbrev pub KeepsLengthAndRoom : String Global → String Global → Type 0
KeepsLengthAndRoom old new = (string_len new ≡ string_len old)
    × (string_capacity new ≡ string_capacity old)
