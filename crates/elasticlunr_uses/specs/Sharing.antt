-- Texts that have tokens in common.
use Rattle.std.specs.Prelude.{List, Contains}
use Rattle.elasticlunr.specs.Text.{Text, Bytes}
use Rattle.elasticlunr.specs.AnyLanguage.TheVariants.{English as english}
use Rattle.elasticlunr.specs.Kept.{KeptReads}
use Rattle.elasticlunr_search.specs.Words.{Asks}

-- English reads a token of the query that it reads of the text, too
abbrev pub SharesToken : (query text : Bytes) → Type 0
SharesToken query text = (token : Text) × Asks (KeptReads english) 0 query token
    × ((tokens : List Text) × KeptReads english 0 text tokens × Contains tokens token)
