use Rattle.std.proofs.Common.{◌++◌, ◌∙◌, ap, arith, map, string_bytes}
use Rattle.std.proofs.lemmas.List.{length-map, take_all}
use Rattle.std.proofs.lemmas.Slice.Zip.{length-zip}
use Rattle.std.specs.List.{zip}
use Rattle.std.specs.Option.{option_to_list}
use Rattle.elasticlunr_error.specs.Text.{bytes_of}
use Rattle.elasticlunr_store.specs.Options.{options_of}
use Rattle.elasticlunr_ranking.specs.Choice.{fields_for}
use Rattle.elasticlunr_ranking.specs.Choice.{field_for as chosen}
use Rattle.elasticlunr_ranking.specs.Fields.{field_of}
use Rattle.elasticlunr_ranking.proofs.Choosing.{fields_step}
use Rattle.elasticlunr_ranking.proofs.choice.searched_fields.Goals as goal

pub loop-i-preserved : goal.loop-i-preserved
loop-i-preserved c =
    let options = options_of c.args.options.now in
    fields_step options c.args.store.now c.args.names.now c.args.tries.now c.loop-i.i c.index-names-i.result
    c.index-tries-i.result (omega arith) (omega arith) c.index-names-i.is c.index-tries-i.is
    (map field_of c.loop-i.fields.items) (map field_of c.push_if.new.fields.items) c.loop-i.invariant
    (c.in_ok-push_if.ensures ∙ ap (λ o. map field_of c.loop-i.fields.items ++ option_to_list o)
    (c.field_for-field.ensures ∙ ap (λ b. chosen options c.args.store.now b c.index-tries-i.result)
    c.as_str.ensures.value))

pub returns : goal.returns
returns c =
    let names = c.args.names.now in
    let z = zip (bytes_of names) c.args.tries.now in
    c.loop-i.invariant ∙ ap (fields_for (options_of c.args.options.now) c.args.store.now)
    (take_all c.loop-i.i z (omega (arith, length-zip (bytes_of names) c.args.tries.now, length-map names string_bytes)))
