use Rattle.elasticlunr_trie_nodes.specs.Nodes.{LosesListed}
use Rattle.elasticlunr_trie.proofs.inverted_index.remove.remove_number.Given as goal

-- the nodes so far have lost the reference
abbrev pub invariant-loop-i : goal.invariant-loop-i
invariant-loop-i l = LosesListed l.fn.nodes.items l.nodes.items l.list.items l.i l.number
