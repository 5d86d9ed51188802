use Rattle.std.proofs.Common.{◌≡◌, List, ◌++◌}
use Rattle.std.specs.Borrow.{Bor}
use Rattle.elasticlunr_error.specs.Text.{Bytes}
use Rattle.elasticlunr_ranking.proofs.entries.entries_of.Given as goal

-- the entries that were read
abbrev pub invariant-loop-reference : goal.invariant-loop-reference
invariant-loop-reference g l = (done : List (Bor Bytes × g.row.X.Denot)) × (done ++ l.reference-iterator
    ≡ l.map.entries)
    × (l.list.items ≡ done)
