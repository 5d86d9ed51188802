use Rattle.std.proofs.Common.{◌≡◌, length}
use Rattle.elasticlunr_trie_nodes.proofs.names.Names.ranks.Given as goal

abbrev pub invariant-loop : goal.invariant-loop
invariant-loop l = length l.ranks.items ≡ l.index
