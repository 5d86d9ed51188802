use Rattle.elasticlunr_trie_nodes.proofs.Counted.{Counted}
use Rattle.elasticlunr_trie_nodes.proofs.nodes.count_before.Given as goal

-- of the children so far, the first ones are smaller
abbrev pub invariant-loop-child : goal.invariant-loop-child
invariant-loop-child l = Counted l.children l.c l.child-index l.count
