-- Readers of one text that read a value in it read the same.
use Rattle.std.proofs.Common.{◌≡◌, ℕ, ◌+◌, ◌≤◌, List, Option, Some, None, option_and_then, sym, ap, ◌∙◌, arith}
use Rattle.json.specs.Token.{Token}
use Rattle.json.specs.Lex.{tokens}
use Rattle.json.specs.Json as json
use Rattle.serde_json.specs.Data.{Data}
use Rattle.serde_json.specs.Read.{of_json}
use Rattle.elasticlunr_print.specs.Printed.{read_within}
use Rattle.elasticlunr_print.proofs.Deeper.{value_deeper}

abbrev of_last : Option (json.Json × List Token) → Option Data
of_last o = option_and_then of_json (option_and_then (λ p. json.if_last p.0 p.1) o)

more_read : (ts : List Token) (less more : ℕ) (v : Data) → less ≤ more → (o : Option (json.Json × List Token))
    → json.value less ts ≡ o → of_last o ≡ Some v → of_last (json.value more ts) ≡ Some v
more_read ts less more v h None is e = absurd (cc)
more_read ts less more v h (Some p) is e = ap of_last (value_deeper less more h ts p is) ∙ e

pub read_deeper : (text : List ℕ) (less more : ℕ) (v : Data) → less ≤ more → read_within less text ≡ Some v
    → read_within more text ≡ Some v
read_deeper text less more v h e = more_read (tokens text) less more v h (json.value less (tokens text))
    (λ i. json.value less (tokens text)) e

pub one_read : (text : List ℕ) (limit other : ℕ) (v w : Data) → read_within limit text ≡ Some v → read_within other text
    ≡ Some w → v ≡ w
one_read text limit other v w one two =
    let n : ℕ = limit + other in
    let both : Some v ≡ Some w = sym (read_deeper text limit n v (omega arith) one)
    ∙ read_deeper text other n w (omega arith) two in
    let same : v ≡ w = cc in
    same
