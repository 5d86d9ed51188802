use Rattle.std.proofs.Common.{◌≡◌, ◌++◌, ◌∷◌, [], codes, map, string_bytes, sym, ap, ◌∙◌}
use Rattle.std.proofs.lemmas.List.{drop_all}
use Rattle.json.specs.Token.{Token}
use Rattle.json.specs.Tree.{items_tokens, json_tokens}
use Rattle.serde_json.specs.Data.{array}
use Rattle.serde_json.specs.Written.{items_outline, outline}
use Rattle.elasticlunr_pieces.specs.Head.{all_lengths}
use Rattle.elasticlunr_pieces.specs.Numbers.{told_texts}
use Rattle.elasticlunr_print.proofs.Writing.{joined, ok_then}
use Rattle.elasticlunr_pieces.proofs.head_value.write_lengths.Goals as goal

pub returns : goal.returns
returns c = ok_then c.end_array.result c.end_array.ensures (λ done.
    let left = drop_all c.loop-field.field-index c.args.fields.now c.loop-field-test.false in
    let all : c.end_array.new.self ≡ c.begin_array.new.self ++ items_tokens (items_outline (all_lengths
    c.args.store.now (map string_bytes c.args.fields.now) (told_texts c.args.references.now))) =
    done ∙ ap (λ ns. c.loop-field.out ++ items_tokens (items_outline (all_lengths c.args.store.now (map string_bytes
    ns) (told_texts c.args.references.now)))) (sym left)
    ∙ c.loop-field.invariant in
    joined c.args.out.now c.key.new.self c.end_array.new.self (Token.key (codes "lengths") ∷ [])
    (json_tokens (outline (array (all_lengths c.args.store.now (map string_bytes c.args.fields.now) (told_texts
    c.args.references.now))))) c.in_ok-key.ensures
    (joined c.key.new.self c.begin_array.new.self c.end_array.new.self (Token.begin_array ∷ [])
    (items_tokens (items_outline (all_lengths c.args.store.now (map string_bytes c.args.fields.now) (told_texts
    c.args.references.now)))) c.in_ok-begin_array.ensures all))
