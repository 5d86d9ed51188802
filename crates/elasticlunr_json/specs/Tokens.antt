-- The tokens that a printer takes.
use Rattle.std.specs.Prelude.{◌≡◌, ◌<◌, ◌^◌, ◌++◌, ℕ, List, decimal}
use Rattle.json.specs.Token as json
use Rattle.json.specs.Tree.{json_tokens, members_tokens}
use Rattle.serde_json.specs.Data.{Data, Members}
use Rattle.serde_json.specs.Written.{outline, members_outline}
use Rattle.elasticlunr_json.specs.declared.tokens.Token.{Token}
use Rattle.elasticlunr_json.specs.declared.tokens.Token.TheVariants.{BeginObject, EndObject}
use Rattle.elasticlunr_json.specs.declared.tokens.Token.TheVariants.{BeginArray, EndArray, Key}
use Rattle.elasticlunr_json.specs.declared.tokens.Token.TheVariants.{String, Bool}

-- the JSON token that it is
abbrev pub token_of : Token → json.Token
token_of BeginObject = json.begin_object
token_of EndObject = json.end_object
token_of BeginArray = json.begin_array
token_of EndArray = json.end_array
token_of (Key text) = json.key text.now
token_of (String text) = json.string text.now
token_of (Bool b) = json.boolean b

-- the token can be written, and is no number; for private clauses
abbrev pub IsPlainToken : json.Token → Type 0
IsPlainToken (json.number s) = ⊥
IsPlainToken json.bad = ⊥
IsPlainToken _ = Unit {0}

-- the token is no number, or the decimal text of one with 64 bits
abbrev pub IsSmallToken : json.Token → Type 0
IsSmallToken (json.number s) = (n : ℕ) × (n < 2 ^ 64) × (s ≡ decimal n)
IsSmallToken _ = Unit {0}

-- after the tokens `old` stand those of the value, and nothing else
abbrev pub WritesValue : List json.Token → List json.Token → Data → Type 0
WritesValue old new value = new ≡ old ++ json_tokens (outline value)

-- the tokens of members
abbrev pub tokens_of : Members → List json.Token
tokens_of ms = members_tokens (members_outline ms)
