use Rattle.std.proofs.Common.{◌≡◌, ℕ, ◌+◌, ◌-◌, vec_len}
use Rattle.elasticlunr_trie_nodes.specs.Nodes.{list_at}
use Rattle.elasticlunr_trie_nodes.proofs.lists.make_lists.Given as goal

-- each number has the list that it had
abbrev pub invariant-lists : goal.invariant-lists
invariant-lists l = (n : ℕ) → list_at l.references.items n ≡ list_at l.fn.references.items n

abbrev pub decreases-lists : goal.decreases-lists
decreases-lists l = l.number + 1 - vec_len l.references
