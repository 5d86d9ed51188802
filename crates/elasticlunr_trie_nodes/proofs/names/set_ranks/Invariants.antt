use Rattle.std.proofs.Common.{◌≡◌, ◌++◌, length}
use Rattle.elasticlunr_trie_nodes.specs.Names.{Numbers, HasRanks}
use Rattle.elasticlunr_trie_nodes.proofs.names.set_ranks.Given as goal

-- the places so far
abbrev pub invariant-loop-number : goal.invariant-loop-number
invariant-loop-number l =
    record {
      same_count : length l.ranks.items ≡ length l.fn.ranks.items;
      done : Numbers;
      split : done ++ l.number-iterator ≡ l.numbers.entries;
      left_is : l.left ≡ length l.number-iterator;
      has : HasRanks l.numbers.entries l.ranks.items (length done);
    }
