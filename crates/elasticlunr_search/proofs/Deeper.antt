-- A text that no `serde_json` reads is not JSON, or nests deeper than `serde_json` goes.
use Rattle.std.proofs.Common.{◌≡◌, ℕ, ◌+◌, ◌-◌, ◌<◌, ◌≤◌, max, List, [], ◌∷◌, ◌++◌, Option, Some, None, option_and_then}
use Rattle.std.proofs.Common.{inl, inr, refl, sym, ap, ◌∙◌, subst, arith, append_assoc}
use Rattle.std.proofs.lemmas.Bool.{cases_lt}
use Rattle.json.specs.Lex.{tokens}
use Rattle.json.specs.Token.{Token}
use Rattle.json.specs.Json as json
use Rattle.json.specs.Json.{Json, Items, Members, value}
use Rattle.json.specs.Tree.{json_tokens, items_tokens, members_tokens, depth, items_depth, members_depth}
use Rattle.json.proofs.Printed.Trees.{value-json_tokens}
use Rattle.json.proofs.Unique.Spelling.{value-json_tokens_back}
use Rattle.serde_json.specs.Read.{of_json, read, max_depth}
use Rattle.elasticlunr.specs.Printed.{read_within}
use Rattle.elasticlunr_search.specs.Levels.{open_after, most_open, levels}

-- those are counted that are open before
pub open_before : (n : ℕ) (ts : List Token) → n ≤ most_open n ts
open_before n [] = omega arith
open_before n (t ∷ ts) = omega arith

-- a text nests deeper where a token opens more
pub opens_deeper : (limit n : ℕ) (t : Token) (ts rest : List Token) → ts ≡ t ∷ rest → limit < open_after n t
    → limit < most_open n ts
opens_deeper limit n t ts rest is deep =
    subst (λ s. limit < most_open n s) (sym is) (omega (arith, open_before (open_after n t) rest, deep))

closed : (n : ℕ) (rest : List Token) → most_open (n + 1 - 1) rest ≡ most_open n rest
closed n rest = let same : n + 1 - 1 ≡ n = omega arith in ap (λ k. most_open k rest) same

mutual
  json_opens : (j : Json) (n : ℕ) (rest : List Token)
      → max (n + depth j) (most_open n rest) ≤ most_open n (json_tokens j ++ rest)
  json_opens json.null n rest = omega (arith, open_before n rest)
  json_opens (json.boolean b) n rest = omega (arith, open_before n rest)
  json_opens (json.number s) n rest = omega (arith, open_before n rest)
  json_opens (json.string s) n rest = omega (arith, open_before n rest)
  json_opens (json.array js) n rest = omega (arith, items_open js n rest)
  json_opens (json.object ms) n rest = omega (arith, members_open ms n rest)

  items_open : (js : Items) (n : ℕ) (rest : List Token)
      → max (n + 1 + items_depth js) (most_open n rest) ≤ most_open (n + 1) (items_tokens js ++ rest)
  items_open json.no_items n rest = omega (arith, closed n rest)
  items_open (json.item j js) n rest = rw append_assoc
      (omega (arith, json_opens j (n + 1) (items_tokens js ++ rest), items_open js n rest))

  members_open : (ms : Members) (n : ℕ) (rest : List Token)
      → max (n + 1 + members_depth ms) (most_open n rest) ≤ most_open (n + 1) (members_tokens ms ++ rest)
  members_open json.no_members n rest = omega (arith, closed n rest)
  members_open (json.member k j ms) n rest =
      let joined = ap (most_open (n + 1)) (append_assoc (json_tokens j) (members_tokens ms) rest) in
      omega (arith, joined, json_opens j (n + 1) (members_tokens ms ++ rest), members_open ms n rest)

-- what a reader reads of tokens that do not nest deeper, `serde_json` reads, too
as_deep : (limit : ℕ) (ts : List Token) → most_open 0 ts ≤ max_depth → (o : Option (Json × List Token))
    → value limit ts ≡ o → option_and_then of_json (option_and_then (λ p. json.if_last p.0 p.1) (value max_depth ts))
    ≡ None → option_and_then of_json (option_and_then (λ p. json.if_last p.0 p.1) o) ≡ None
as_deep limit ts shallow None is unread = refl
as_deep limit ts shallow (Some (j, rest)) is unread =
    let spelled = value-json_tokens_back limit ts rest j is in
    let deepest : depth j ≤ max_depth = omega (arith, json_opens j 0 rest, ap (most_open 0) spelled, shallow) in
    let again : value max_depth ts ≡ Some (j, rest) =
    ap (value max_depth) spelled ∙ value-json_tokens j max_depth rest deepest in
    ap (λ p. option_and_then of_json (option_and_then (λ q. json.if_last q.0 q.1) p)) (sym again) ∙ unread

pub not_json : (text : List ℕ) → read text ≡ None → ¬ (max_depth < levels text) → (limit : ℕ)
    → read_within limit text ≡ None
not_json text unread no_deeper limit = elim (cases_lt max_depth (levels text)) [
  | inl deeper ↦ absurd (no_deeper deeper)
  | inr shallow ↦ as_deep limit (tokens text) shallow (value limit (tokens text)) refl unread
]
