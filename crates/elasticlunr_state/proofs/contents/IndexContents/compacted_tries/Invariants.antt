use Rattle.std.proofs.Common.{◌≡◌, ℕ, Some, vec_len}
use Rattle.std.specs.List.{slice_get}
use Rattle.elasticlunr_trie.specs.Table.{Table}
use Rattle.elasticlunr_commands.specs.Entered.{IsCompacted}
use Rattle.elasticlunr_state.proofs.contents.IndexContents.compacted_tries.Given as goal

abbrev pub invariant-loop-trie : goal.invariant-loop-trie
invariant-loop-trie l = record {
  as_many : vec_len l.tries ≡ l.trie-index;
  each : (i : ℕ) (before after : Table) → slice_get l.self.tries.items i ≡ Some before → slice_get l.tries.items i
      ≡ Some after → IsCompacted before after;
}
