use Rattle.std.proofs.Common.{◌≡◌, ◌++◌, ◌∷◌, [], sym, ap, ◌∙◌}
use Rattle.std.proofs.lemmas.List.{drop_all}
use Rattle.json.specs.Token.{Token}
use Rattle.json.specs.Tree.{items_tokens, json_tokens}
use Rattle.serde_json.specs.Data.{array}
use Rattle.serde_json.specs.Written.{items_outline, outline}
use Rattle.elasticlunr_pieces.specs.Numbers.{told_texts}
use Rattle.elasticlunr_print.specs.Printed.{texts}
use Rattle.elasticlunr_print.proofs.Writing.{joined, ok_then}
use Rattle.elasticlunr_pieces.proofs.head_value.write_texts.Goals as goal

pub returns : goal.returns
returns c = ok_then c.end_array.result c.end_array.ensures (λ done.
    let left = drop_all c.loop-name.name-index c.args.names.now c.loop-name-test.false in
    let all : c.end_array.new.self ≡ c.begin_array.new.self ++ items_tokens (items_outline (texts (told_texts
    c.args.names.now))) =
    done ∙ ap (λ ns. c.loop-name.out ++ items_tokens (items_outline (texts (told_texts ns)))) (sym left)
    ∙ c.loop-name.invariant in
    joined c.args.out.now c.key.new.self c.end_array.new.self (Token.key c.args.key.now ∷ [])
    (json_tokens (outline (array (texts (told_texts c.args.names.now))))) c.in_ok-key.ensures
    (joined c.key.new.self c.begin_array.new.self c.end_array.new.self (Token.begin_array ∷ [])
    (items_tokens (items_outline (texts (told_texts c.args.names.now)))) c.in_ok-begin_array.ensures all))
