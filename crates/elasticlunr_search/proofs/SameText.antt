-- On what was taken of a text's tokens.
use Rattle.std.proofs.Common.{◌≡◌, ℕ, ◌-◌, ◌+◌, List, [], ◌∷◌, ◌++◌, length, take, All, Option, Some, None, option_map}
use Rattle.std.proofs.Common.{MatchOption, refl, sym, ap, subst, ◌∙◌, arith, append_assoc, length-append}
use Rattle.std.proofs.Math.Seq.{take-append_seam}
use Rattle.std.proofs.lemmas.List.Elements.{All-append, All-cons, All-nil}
use Rattle.json.specs.Lex.{tokens}
use Rattle.json.specs.Reads.{token_of}
use Rattle.json.specs.Token.{Token}
use Rattle.json.specs.declared.token.Token.TheVariants as found
use Rattle.elasticlunr_json.specs.Tokens.{IsSmallToken}
use Rattle.elasticlunr_search.specs.SameText.{taken}

-- what stands before the tokens that are left was taken
pub is_taken : (all front left : List Token) → all ≡ front ++ left → take (length all - length left) all ≡ front
is_taken all front left is =
    let longer : length all ≡ length front + length left = ap length is ∙ length-append front left in
    let count : length all - length left ≡ length front = omega (arith, longer) in
    ap (λ n. take n all) count ∙ ap (take (length front)) is ∙ take-append_seam front left

module _ (text : List ℕ) (old new : List Token) (split : tokens text ≡ taken text old ++ old) where
  -- one token more
  pub more : (t : Token) → old ≡ t ∷ new → tokens text ≡ (taken text old ++ t ∷ []) ++ new
  more t is = split ∙ ap (λ ts. taken text old ++ ts) is ∙ sym (append_assoc (taken text old) (t ∷ []) new)

  pub taken_more : (t : Token) → old ≡ t ∷ new → taken text new ≡ taken text old ++ t ∷ []
  taken_more t is = is_taken (tokens text) (taken text old ++ t ∷ []) new (more t is)

  pub split_more : (t : Token) → old ≡ t ∷ new → tokens text ≡ taken text new ++ new
  split_more t is = more t is ∙ ap (λ ts. ts ++ new) (sym (taken_more t is))

  module _ (o : Option found.the_data) (gives : MatchOption o ((old ≡ []) × (new ≡ [])) (λ t. old ≡ token_of t ∷ new))
    where
      -- what is left still follows what was taken
      pub still_split : tokens text ≡ taken text new ++ new
      still_split = by o gives
        where
          by : (o : Option found.the_data) → MatchOption o ((old ≡ []) × (new ≡ [])) (λ t. old ≡ token_of t ∷ new)
              → tokens text ≡ taken text new ++ new
          by (Some t) is = split_more (token_of t) is
          by None is = subst (λ ts. tokens text ≡ taken text ts ++ ts) (is.0 ∙ sym is.1) split

      -- the token that was looked for was taken
      pub took : (t : Token) → option_map token_of o ≡ Some t → taken text new ≡ taken text old ++ t ∷ []
      took t same = by o gives same
        where
          by : (o : Option found.the_data) → MatchOption o ((old ≡ []) × (new ≡ [])) (λ t. old ≡ token_of t ∷ new)
              → option_map token_of o ≡ Some t → taken text new ≡ taken text old ++ t ∷ []
          by (Some u) is e = let v : token_of u ≡ t = cc in taken_more t (is ∙ ap (λ x. x ∷ new) v)
          by None is e = absurd (cc)

      pub took_small : (t : Token) → option_map token_of o ≡ Some t → IsSmallToken t → All IsSmallToken (taken text old)
          → All IsSmallToken (taken text new)
      took_small t same small all = subst (All IsSmallToken) (sym (took t same))
          (All-append IsSmallToken (taken text old) (t ∷ []) all
          (All-cons IsSmallToken t [] small (All-nil IsSmallToken)))

-- at first no token is taken
pub none_taken : (text : List ℕ) → taken text (tokens text) ≡ []
none_taken text = is_taken (tokens text) [] (tokens text) refl
