use Rattle.std.proofs.Common.{◌≡◌, ◌↔◌, ℕ, ◌<◌, ◌≤◌, IsTrue, length}
use Rattle.elasticlunr_trie.specs.Compact.{Bears, is_marked}
use Rattle.elasticlunr_trie.proofs.inverted_index.compact.mark.Given as goal

-- the nodes from i on are marked
abbrev pub invariant-loop-i : goal.invariant-loop-i
invariant-loop-i l =
    record {
      low : l.i ≤ length l.nodes;
      count : length l.marks ≡ length l.nodes;
      each : (k : ℕ) → l.i ≤ k → k < length l.nodes → IsTrue (is_marked l.marks k) ↔ Bears l.nodes k;
    }

abbrev pub decreases-loop-i : goal.decreases-loop-i
decreases-loop-i l = l.i
