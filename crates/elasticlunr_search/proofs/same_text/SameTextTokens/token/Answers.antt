use Rattle.std.proofs.Common.{◌++◌, ◌∷◌, [], ap, ◌∙◌}
use Rattle.elasticlunr_json.specs.Tokens.{token_of, IsSmallToken}
use Rattle.elasticlunr_json.specs.declared.tokens.Token.TheVariants.{BeginObject, EndObject, BeginArray, EndArray, Key}
use Rattle.elasticlunr_json.specs.declared.tokens.Token.TheVariants.{String, Bool}
use Rattle.elasticlunr_json.specs.declared.tokens.Token.{Token}
use Rattle.elasticlunr_search.specs.SameText.{taken}
use Rattle.elasticlunr_search.proofs.SameText.{still_split, took, took_small}
use Rattle.elasticlunr_search.proofs.same_text.SameTextTokens.token.Goals as goal

small : (t : Token) → IsSmallToken (token_of t)
small BeginObject = tt
small EndObject = tt
small BeginArray = tt
small EndArray = tt
small (Key text) = tt
small (String text) = tt
small (Bool b) = tt

pub invariant_of-self : goal.invariant_of-self
invariant_of-self c =
    let text = c.self.inside.text.now in
    let found = c.is_token.ensures c.if-is_token.true in (
      still_split text _ _ c.self.invariant.0 c.next.result c.next.ensures.value,
      λ same. took_small text _ _ c.self.invariant.0 c.next.result c.next.ensures.value (token_of c.args.token) found
          (small c.args.token) (c.self.invariant.1 same),
    )

pub returns-then-is_token : goal.returns-then-is_token
returns-then-is_token c =
    took c.self.inside.text.now _ _ c.self.invariant.0 c.next.result c.next.ensures.value (token_of c.args.token)
    (c.is_token.ensures c.if-is_token.true)
    ∙ ap (λ s. taken s.0 s.1 ++ token_of c.args.token ∷ []) c.self.view_is

pub invariant_of-self-2 : goal.invariant_of-self-2
invariant_of-self-2 c = (
  still_split c.self.inside.text.now _ _ c.self.invariant.0 c.next.result c.next.ensures.value,
  λ same. absurd (cc),
)
