use Rattle.std.proofs.Common.{◌≡◌, ℕ, ◌<◌, ◌≤◌, Some, length}
use Rattle.std.specs.List.{slice_get}
use Rattle.elasticlunr_trie.specs.Compact.{new_number}
use Rattle.elasticlunr_trie.proofs.inverted_index.compact.new_numbers.Given as goal

-- the numbers so far
abbrev pub invariant-loop-marked : goal.invariant-loop-marked
invariant-loop-marked l =
    record {
      few : l.count ≤ l.marked-index;
      count : l.count ≡ new_number l.marks l.marked-index;
      length_so_far : length l.numbers.items ≡ l.marked-index;
      each : (k : ℕ) → k < l.marked-index → slice_get l.numbers.items k ≡ Some (new_number l.marks k);
    }
