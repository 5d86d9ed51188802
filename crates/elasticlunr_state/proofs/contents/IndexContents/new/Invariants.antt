use Rattle.std.proofs.Common.{◌≡◌}
use Rattle.std.specs.Prelude.{replicate}
use Rattle.elasticlunr_trie.specs.Table.{new_table}
use Rattle.elasticlunr_state.proofs.contents.IndexContents.new.Given as goal

abbrev pub invariant-loop : goal.invariant-loop
invariant-loop l = l.tries.items ≡ replicate l.counter new_table
