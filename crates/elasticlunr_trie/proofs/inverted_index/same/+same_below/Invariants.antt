use Rattle.std.proofs.Common.{◌-◌, ◌+◌, ◌<◌, ◌≤◌, ◌↔◌, ℕ, length, get_or}
use Rattle.elasticlunr_trie_nodes.specs.Trie.{rank}
use Rattle.elasticlunr_trie.specs.Same.{look_from, IsSameBelow}
use Rattle.elasticlunr_trie_nodes.specs.declared.nodes.Place.TheVariants.{At}
use Rattle.elasticlunr_trie.proofs.Alike.{AreAlike}
use Rattle.elasticlunr_trie.proofs.inverted_index.same.+same_below.Given as goal

-- children have higher numbers
abbrev pub decreases-same_below : goal.decreases-same_below
decreases-same_below l = length l.nodes.now + 1 - rank l.place

-- the answer is that of the places now, which are no higher up
abbrev pub invariant-loop-children : goal.invariant-loop-children
invariant-loop-children l =
    record {
      deeper : rank l.fn.place ≤ rank l.here;
      answer : IsSameBelow l.names l.root l.nodes l.fn.place l.names2 l.root2 l.nodes2 l.fn.place2
          ↔ IsSameBelow l.names l.root l.nodes l.here l.names2 l.root2 l.nodes2 l.here2;
    }

abbrev pub decreases-loop-children : goal.decreases-loop-children
decreases-loop-children l = length l.nodes + 1 - rank l.here

-- the children so far lead to the same texts
abbrev pub invariant-loop-i : goal.invariant-loop-i
invariant-loop-i l = (x : ℕ) → x < l.i → AreAlike (λ k. look_from l.names l.root l.nodes (At k))
    (λ j. look_from l.names2 l.root2 l.nodes2 (At j)) (get_or l.children x (0, 0)) (get_or l.children2 x (0, 0))
