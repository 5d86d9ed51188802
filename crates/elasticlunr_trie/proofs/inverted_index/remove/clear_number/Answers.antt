use Rattle.elasticlunr_trie.proofs.Written.{number_cleared}
use Rattle.elasticlunr_trie.proofs.inverted_index.remove.clear_number.Goals as goal

pub returns : goal.returns
returns c = number_cleared c.args.nodes.now.items c.args.k c.index_mut.result.now c.requires c.index_mut.ensures.value
    c.remove.new.self c.args.number c.remove.ensures
