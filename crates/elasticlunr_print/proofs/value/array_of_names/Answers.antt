use Rattle.std.proofs.Common.{◌≡◌, ◌+◌, ◌++◌, ◌∷◌, [], map, take, string_bytes, sym, ap, ◌∙◌, refl}
use Rattle.std.proofs.lemmas.List.{take_more, take_all}
use Rattle.serde_json.specs.Data.{array, string}
use Rattle.serde_json.specs.View.{items_view}
use Rattle.serde_json.proofs.Views.{view-Array}
use Rattle.elasticlunr_print.specs.Printed.{texts}
use Rattle.elasticlunr_print.proofs.Values.{texts_push}
use Rattle.elasticlunr_commands.proofs.Naming.{names_push}
use Rattle.elasticlunr_print.proofs.value.array_of_names.Goals as goal

pub loop-name-preserved : goal.loop-name-preserved
loop-name-preserved c =
    let names = c.args.names.now in
    let more : take (c.loop-name.name-index + 1) c.args.names.now ≡ take c.loop-name.name-index c.args.names.now ++
    c.name-item.result ∷ [] =
    take_more c.args.names.now c.loop-name.name-index c.name-item.result c.loop-name-test.true
    ∙ ap (λ n. take c.loop-name.name-index c.args.names.now ++ n ∷ []) (sym c.name-item.is) in
    ap items_view c.in_ok-push.ensures.items
    ∙ texts_push c.loop-name.values.items c.in_ok-try_from_str.field-0
    (map string_bytes (take c.loop-name.name-index c.args.names.now)) (string_bytes c.name-item.result)
    c.loop-name.invariant (c.in_ok-try_from_str.ensures ∙ ap string c.as_str.ensures.value)
    ∙ ap texts (sym (ap (map string_bytes) more ∙ names_push (take c.loop-name.name-index c.args.names.now)
    c.name-item.result _ refl))

pub returns : goal.returns
returns c =
    view-Array c.loop-name.values ∙ ap array (c.loop-name.invariant
    ∙ ap (λ ns. texts (map string_bytes ns))
    (take_all c.loop-name.name-index c.args.names.now c.loop-name-test.false))
