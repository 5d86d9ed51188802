use Rattle.std.proofs.Common.{◌≡◌, Some, length, bytes_eq, ap, sym, ◌∙◌}
use Rattle.std.specs.Map.{update}
use Rattle.std.specs.BTreeMap.{get_by_text}
use Rattle.std.proofs.lemmas.Map.Text.{btree_map_updates_text}
use Rattle.elasticlunr_trie_nodes.specs.Names.{names_of}
use Rattle.elasticlunr_trie_nodes.proofs.Numbers.{length-names}
use Rattle.elasticlunr_trie_nodes.proofs.names.add_name.Goals as goal

pub returns-clause-numbers : goal.returns-clause-numbers
returns-clause-numbers c = λ r.
    let count : length c.as_slice-number.result.now ≡ length (names_of c.args.in_order.now.items) =
    ap length c.as_slice-number.ensures.value ∙ sym (length-names c.args.in_order.now.items) in
    btree_map_updates_text _ c.args.numbers.now c.insert.new.self _ c.in_ok-insert.ensures.updates r
    ∙ (λ i. update bytes_eq (λ q. get_by_text c.args.numbers.now q) (c.in_ok-key.ensures.ok i) (Some (count i)) r)
