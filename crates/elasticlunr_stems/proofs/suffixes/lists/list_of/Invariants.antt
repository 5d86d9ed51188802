use Rattle.std.proofs.Common.{◌≡◌, ◌++◌, drop}
use Rattle.std.specs.List.{filter}
use Rattle.elasticlunr_stems.specs.RowViews.{rows_of, may_end}
use Rattle.elasticlunr_stems.proofs.suffixes.lists.list_of.Given as goal

abbrev pub invariant-loop-row : goal.invariant-loop-row
invariant-loop-row l =
    rows_of l.list.items ++ filter (may_end l.number) (rows_of (drop l.row-index l.rows))
    ≡ filter (may_end l.number) (rows_of l.rows)
