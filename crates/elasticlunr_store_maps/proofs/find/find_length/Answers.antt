use Rattle.std.proofs.Common.{ap, sym, ◌∙◌, option_map}
use Rattle.std.specs.Option.{option_and_then}
use Rattle.std.specs.FinMap.{get}
use Rattle.elasticlunr_store_maps.specs.Contents.{length_map}
use Rattle.elasticlunr_json.proofs.Seen.{get_seen, map_itself}
use Rattle.elasticlunr_store_maps.proofs.find.find_length.Goals as goal

pub returns-in_err-get : goal.returns-in_err-get
returns-in_err-get c =
    let none = ap (option_map (λ m. length_map m.entries)) c.in_err-get.ensures.value
    ∙ sym (get_seen (λ m. length_map m.entries) c.args.doc_info.now c.args.doc_ref.now) in
    c.from_residual.ensures ∙ ap (option_and_then (λ lengths. get lengths c.args.field.now)) none

pub returns : goal.returns
returns c =
    let there = ap (option_map (λ m. length_map m.entries)) c.in_ok-get.ensures.value
    ∙ sym (get_seen (λ m. length_map m.entries) c.args.doc_info.now c.args.doc_ref.now) in
    c.copied.ensures ∙ c.get-2.ensures.value ∙ sym (map_itself _)
    ∙ sym (get_seen (λ n. n) c.in_ok-get.field-0.now c.args.field.now)
    ∙ ap (option_and_then (λ lengths. get lengths c.args.field.now)) there
