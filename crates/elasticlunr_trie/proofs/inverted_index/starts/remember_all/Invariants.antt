use Rattle.elasticlunr_trie_nodes.specs.Trie.{step_of}
use Rattle.elasticlunr_trie.specs.TokenCache.{AreEnds}
use Rattle.elasticlunr_trie.proofs.inverted_index.starts.remember_all.Given as goal

abbrev pub invariant-loop-i : goal.invariant-loop-i
invariant-loop-i l = AreEnds (step_of l.root l.nodes) l.ends
