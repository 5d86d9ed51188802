use Rattle.std.proofs.Common.{◌≤◌, length}
use Rattle.elasticlunr_trie.proofs.Finishing.{IsFinishedFrom}
use Rattle.elasticlunr_trie.proofs.inverted_index.value.root_value.Given as goal

-- the values of the nodes from i on are their trees
abbrev pub invariant-loop-i : goal.invariant-loop-i
invariant-loop-i l =
    record {
      low : l.i ≤ length l.nodes;
      trees : IsFinishedFrom l.names l.root l.nodes l.finished l.i;
    }

abbrev pub decreases-loop-i : goal.decreases-loop-i
decreases-loop-i l = l.i
