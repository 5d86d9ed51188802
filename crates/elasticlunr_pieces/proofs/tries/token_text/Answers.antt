use Rattle.std.proofs.Common.{◌≡◌, ◌++◌, ◌∷◌, [], List, sym, ap, ◌∙◌}
use Rattle.std.proofs.lemmas.List.{drop_all}
use Rattle.json.specs.Print.{print}
use Rattle.json.specs.Token.{begin_array, key}
use Rattle.json.specs.Tree.{items_tokens, json_tokens}
use Rattle.serde_json.specs.Data.{array}
use Rattle.serde_json.specs.Written.{items_outline, outline}
use Rattle.elasticlunr_print.proofs.Writing.{joined}
use Rattle.elasticlunr_trie.specs.Table.{Table}
use Rattle.elasticlunr_pieces.specs.Entries.{field_values}
use Rattle.elasticlunr_pieces.specs.Numbers.{told_texts}
use Rattle.elasticlunr_pieces.proofs.Writing.{member_text}
use Rattle.elasticlunr_pieces.proofs.tries.token_text.Goals as goal

pub returns : goal.returns
returns c =
    let token = c.args.token.now in
    let names = told_texts c.args.numbers.now.references.items in
    let left = drop_all c.loop-trie.trie-index c.args.tries.now c.loop-trie-test.false in
    let of = λ (tables : List Table). items_tokens (items_outline (field_values names tables token)) in
    let listed : c.token-3.new.self ≡ c.token-2.new.self ++ of c.args.tries.now =
    c.in_ok-token-3.ensures ∙ ap (λ ts. c.loop-trie.out ++ of ts) (sym left) ∙ c.loop-trie.invariant in
    let value = array (field_values names c.args.tries.now token) in
    let all : c.token-3.new.self ≡ key token ∷ json_tokens (outline value) =
    joined [] c.token.new.self c.token-3.new.self (key token ∷ []) (json_tokens (outline value))
    (c.in_ok-token.ensures ∙ ap (λ r. r ++ key token ∷ []) c.in_ok-out.ensures)
    (joined c.token.new.self c.token-2.new.self c.token-3.new.self (begin_array ∷ []) (of c.args.tries.now)
    c.in_ok-token-2.ensures listed) in
    c.into_string.ensures.text ∙ ap print all ∙ member_text token (array (field_values names c.args.tries.now token))
