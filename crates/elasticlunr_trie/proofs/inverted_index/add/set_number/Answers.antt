use Rattle.elasticlunr_json.proofs.Seen.{on_ok}
use Rattle.elasticlunr_trie.proofs.Written.{number_set}
use Rattle.elasticlunr_trie.proofs.inverted_index.add.set_number.Goals as goal

pub returns-clause-ok : goal.returns-clause-ok
returns-clause-ok c = on_ok c.set.result _ _ (number_set c.args.nodes.now.items c.args.k c.index_mut.result.now
    c.requires c.index_mut.ensures.value c.set.new.self c.args.number c.args.frequency) c.set.ensures.ok
