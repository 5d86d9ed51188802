-- How deep the arrays and objects of a text nest.
use Rattle.std.specs.Prelude.{◌≡◌, ◌+◌, ◌-◌, ◌<◌, ℕ, max, List, [], ◌∷◌, None}
use Rattle.json.specs.Lex.{tokens}
use Rattle.json.specs.Token.{Token, begin_object, end_object, begin_array, end_array}
use Rattle.serde_json.specs.Read.{read, max_depth}

-- how many arrays and objects are open after a token, of those that are open before it
abbrev pub open_after : (open_before : ℕ) → Token → ℕ
open_after n begin_object = n + 1
open_after n begin_array = n + 1
open_after n end_object = n - 1
open_after n end_array = n - 1
open_after n _ = n

-- the most that are open at once among these tokens
abbrev pub most_open : (open_before : ℕ) → List Token → ℕ
most_open n [] = n
most_open n (t ∷ ts) = max n (most_open (open_after n t) ts)

-- the most arrays and objects of the text that are open at once
abbrev pub levels : List ℕ → ℕ
levels text = most_open 0 (tokens text)

-- `serde_json` does not read the text, which nests deeper than it goes
abbrev pub IsTooDeep : List ℕ → Type 0
IsTooDeep text = (read text ≡ None) × (max_depth < levels text)
