use Rattle.std.proofs.Common.{◌≡◌, map, All, length}
use Rattle.elasticlunr_trie_nodes.specs.Trie.{step_of}
use Rattle.elasticlunr_trie_nodes.specs.Starts.{IsStart, told}
use Rattle.elasticlunr_trie.proofs.inverted_index.starts.finish_all.Given as goal

abbrev pub invariant-loop-i : goal.invariant-loop-i
invariant-loop-i l = All (IsStart (step_of l.root l.nodes)) l.starts × (map told l.starts ≡ map told l.fn.starts)
    × (length l.starts ≡ length l.fn.starts)
