use Rattle.std.proofs.Common.{◌≡◌}
use Rattle.std.specs.Prelude.{replicate}
use Rattle.elasticlunr_trie.specs.Table.{new_table}
use Rattle.elasticlunr_piece_search.proofs.piece_index.empty_tries.Given as goal

-- the tries so far
abbrev pub invariant-loop : goal.invariant-loop
invariant-loop l = l.tries.items ≡ replicate l.counter new_table
