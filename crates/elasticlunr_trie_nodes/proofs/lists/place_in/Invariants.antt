use Rattle.std.proofs.Common.{◌≢◌, ◌<◌, ◌≤◌, ℕ, length, slice_index}
use Rattle.elasticlunr_trie_nodes.proofs.lists.place_in.Given as goal

-- what is after the place was looked at
abbrev pub invariant-loop-i : goal.invariant-loop-i
invariant-loop-i l = (l.i ≤ length l.list.items) × ((q : ℕ) → l.i ≤ q → q < length l.list.items → slice_index l.list.items q ≢ l.k)

abbrev pub decreases-loop-i : goal.decreases-loop-i
decreases-loop-i l = l.i
