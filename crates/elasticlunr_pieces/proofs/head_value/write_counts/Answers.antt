use Rattle.std.proofs.Common.{◌≡◌, ◌++◌, ◌∷◌, [], sym, ap, ◌∙◌}
use Rattle.std.proofs.lemmas.List.{drop_all}
use Rattle.json.specs.Token.{Token}
use Rattle.json.specs.Tree.{items_tokens, json_tokens}
use Rattle.serde_json.specs.Data.{array}
use Rattle.serde_json.specs.Written.{items_outline, outline}
use Rattle.elasticlunr_pieces.specs.Head.{counts}
use Rattle.elasticlunr_print.proofs.Writing.{joined, ok_then}
use Rattle.elasticlunr_pieces.proofs.head_value.write_counts.Goals as goal

pub returns : goal.returns
returns c = ok_then c.end_array.result c.end_array.ensures (λ done.
    let left = drop_all c.loop-number.number-index c.args.numbers.now c.loop-number-test.false in
    let all : c.end_array.new.self ≡ c.begin_array.new.self ++ items_tokens (items_outline (counts c.args.numbers.now))
    =
    done ∙ ap (λ ns. c.loop-number.out ++ items_tokens (items_outline (counts ns))) (sym left)
    ∙ c.loop-number.invariant in
    joined c.args.out.now c.key.new.self c.end_array.new.self (Token.key c.args.key.now ∷ [])
    (json_tokens (outline (array (counts c.args.numbers.now)))) c.in_ok-key.ensures
    (joined c.key.new.self c.begin_array.new.self c.end_array.new.self (Token.begin_array ∷ [])
    (items_tokens (items_outline (counts c.args.numbers.now))) c.in_ok-begin_array.ensures all))
