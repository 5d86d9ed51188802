use Rattle.std.proofs.Common.{◌≡◌, ◌++◌, ◌∷◌, [], sym, ap, ◌∙◌}
use Rattle.std.proofs.lemmas.List.{drop_all}
use Rattle.json.specs.Token.{Token}
use Rattle.json.specs.Tree.{items_tokens}
use Rattle.serde_json.specs.Written.{items_outline}
use Rattle.elasticlunr_pieces.specs.Head.{field_lengths}
use Rattle.elasticlunr_pieces.specs.Numbers.{told_texts}
use Rattle.elasticlunr_print.proofs.Writing.{joined, ok_then}
use Rattle.elasticlunr_pieces.proofs.head_value.write_field_lengths.Goals as goal

pub returns : goal.returns
returns c = ok_then c.end_array.result c.end_array.ensures (λ done.
    let left = drop_all c.loop-reference.reference-index c.args.references.now c.loop-reference-test.false in
    let all : c.end_array.new.self ≡ c.begin_array.new.self ++ items_tokens (items_outline (field_lengths
    c.args.store.now c.args.field.now (told_texts c.args.references.now))) =
    done ∙ ap (λ ns. c.loop-reference.out ++ items_tokens (items_outline (field_lengths c.args.store.now
    c.args.field.now (told_texts ns)))) (sym left)
    ∙ c.loop-reference.invariant in
    joined c.args.out.now c.begin_array.new.self c.end_array.new.self (Token.begin_array ∷ [])
    (items_tokens (items_outline (field_lengths c.args.store.now c.args.field.now (told_texts c.args.references.now))))
    c.in_ok-begin_array.ensures all)
