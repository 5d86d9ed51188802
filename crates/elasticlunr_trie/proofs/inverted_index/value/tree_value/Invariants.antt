use Rattle.std.proofs.Common.{◌≡◌, length}
use Rattle.elasticlunr_trie.proofs.inverted_index.value.tree_value.Given as goal

abbrev pub invariant-loop : goal.invariant-loop
invariant-loop l = length l.finished.items ≡ l.index
