use Rattle.std.proofs.Common.{◌≡◌, map, drop}
use Rattle.std.specs.List.{list_all}
use Rattle.elasticlunr_stems.specs.Safe.{shortens_at}
use Rattle.elasticlunr_stems.specs.Views.{steps_of}
use Rattle.elasticlunr_stems.specs.RowViews.{row_of}
use Rattle.elasticlunr_stems.proofs.safe.rows_shorten.Given as goal

abbrev pub invariant-loop-row : goal.invariant-loop-row
invariant-loop-row l =
    list_all (λ row. shortens_at (steps_of l.steps) row.step) (map row_of (drop l.row-index l.rows))
    ≡ list_all (λ row. shortens_at (steps_of l.steps) row.step) (map row_of l.rows)
