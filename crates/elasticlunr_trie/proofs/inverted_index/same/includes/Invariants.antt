use Rattle.std.proofs.Common.{◌≡◌, ℕ, ◌<◌, Some, get_or, []}
use Rattle.std.specs.FinMap.{entries}
use Rattle.elasticlunr_trie_nodes.specs.Names.{at}
use Rattle.elasticlunr_trie_nodes.specs.Pairs.{key_at}
use Rattle.elasticlunr_trie.proofs.inverted_index.same.includes.Given as goal

-- the pairs so far are on the other side
abbrev pub invariant-loop-i : goal.invariant-loop-i
invariant-loop-i l = (i : ℕ) → i < l.i → at l.names2 (get_or l.names (key_at (entries l.postings) i) [])
    l.postings2 ≡ Some (get_or (entries l.postings) i (0, 0)).1
