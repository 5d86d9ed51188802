use Rattle.std.proofs.Common.{◌∙◌, string_bytes}
use Rattle.std.specs.FinMap.{insert}
use Rattle.std.proofs.lemmas.Map.Text.{btree_map_updates_text}
use Rattle.elasticlunr_store_maps.specs.Contents.{length_map, document_lengths}
use Rattle.elasticlunr_json.proofs.Seen.{seen_inserted}
use Rattle.elasticlunr_store_maps.proofs.put.put_lengths.Goals as goal

pub returns-clause-ok : goal.returns-clause-ok
returns-clause-ok c =
    let key = string_bytes c.in_ok-from_str.field-0 in
    seen_inserted (λ m. length_map m.entries) c.args.doc_info.now c.insert.new.self key c.args.lengths
    (btree_map_updates_text key c.args.doc_info.now c.insert.new.self _ c.in_ok-insert.ensures.updates)
    ∙ (λ i. insert (document_lengths c.args.doc_info.now.entries) (c.in_ok-from_str.ensures.ok i)
    (length_map c.args.lengths.entries))
