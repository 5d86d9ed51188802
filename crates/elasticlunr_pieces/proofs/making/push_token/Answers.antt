use Rattle.std.proofs.Common.{◌≤◌, ◌++◌, ◌∷◌, [], length, string_bytes, sym, ap, ◌∙◌, append-nil, arith}
use Rattle.std.proofs.lemmas.List.{length-map, map-append}
use Rattle.std.specs.Option.{option_to_list}
use Rattle.elasticlunr_error.specs.Text.{bytes_of}
use Rattle.elasticlunr_pieces.specs.Numbers.{told_texts}
use Rattle.elasticlunr_pieces.proofs.Numbering.{none_there, some_there}
use Rattle.elasticlunr_pieces.proofs.making.push_token.Goals as goal

pub returns-then-place-tokens : goal.returns-then-place-tokens
returns-then-place-tokens c =
    let tokens = c.args.tokens.now in
    let found = told_texts c.args.found.now.items in
    let past : length (bytes_of tokens) ≤ c.args.place = omega (arith, length-map tokens string_bytes) in
    sym (ap (λ o. found ++ option_to_list o) (none_there (bytes_of tokens) c.args.place past) ∙ append-nil found)

pub returns : goal.returns
returns c =
    let tokens = c.args.tokens.now in
    let found = c.args.found.now.items in
    let token = c.index-tokens-place.result in
    ap told_texts c.in_ok-push.ensures.items ∙ map-append (λ t. t.now) found (c.as_str.result ∷ [])
    ∙ ap (λ b. told_texts found ++ b ∷ []) c.as_str.ensures.value
    ∙ ap (λ o. told_texts found ++ option_to_list o)
    (sym (some_there string_bytes tokens c.args.place token (omega arith) c.index-tokens-place.is))
