-- What an index of titles and bodies reads, whose titles have a tokenizer.
use Rattle.std.specs.Prelude.{ℕ, zero, suc, List}
use Rattle.elasticlunr.specs.AnyLanguage.TheVariants.{English as english}
use Rattle.elasticlunr.specs.Kept.{KeptReads}
use Rattle.elasticlunr.specs.Known.{language_leaves}
use Rattle.elasticlunr.specs.Reading.{LanguageReads}
use Rattle.elasticlunr.specs.Text.{Text, Bytes}

-- the tokens of a title are what English makes of what the tokenizer gives for it, and those of a
-- body what it makes of its words
abbrev pub ReadsTitles : (gives : Bytes → List Text → Type 0) → ℕ → Bytes → List Text → Type 0
ReadsTitles gives zero value tokens = (made : List Text) × gives value made
    × LanguageReads (λ _. made) (language_leaves english) zero value tokens
ReadsTitles gives (suc i) value tokens = KeptReads english (suc i) value tokens
