-- What was taken of a text's tokens; for private clauses.
use Rattle.std.specs.Prelude.{◌-◌, ℕ, List, length, take}
use Rattle.json.specs.Token.{Token}
use Rattle.json.specs.Lex.{tokens}

-- all tokens of the text but those that are left
abbrev pub taken : List ℕ → List Token → List Token
taken text left = take (length (tokens text) - length left) (tokens text)
