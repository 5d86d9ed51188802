use Rattle.std.proofs.Common.{◌≡◌, ℕ, ◌<◌, false, get_or}
use Rattle.elasticlunr_trie.specs.Compact.{is_marked}
use Rattle.elasticlunr_trie.proofs.inverted_index.compact.has_marked.Given as goal

-- none of the children so far is marked
abbrev pub invariant-loop-child : goal.invariant-loop-child
invariant-loop-child l = (i : ℕ) → i < l.child-index → is_marked l.marks (get_or l.children i (0, 0)).1 ≡ false
