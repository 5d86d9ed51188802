use Rattle.std.proofs.Common.{◌≡◌, ◌++◌, drop}
use Rattle.elasticlunr_trie_nodes.proofs.number_list.widened.Given as goal

-- the numbers from here on come after those that were copied
abbrev pub invariant-loop-number : goal.invariant-loop-number
invariant-loop-number l = l.more.items ++ drop l.number-index l.numbers.items ≡ l.numbers.items
