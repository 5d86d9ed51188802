use Rattle.std.proofs.Common.{◌≡◌, map, drop}
use Rattle.elasticlunr_stems.specs.Safe.{get_no_longer}
use Rattle.elasticlunr_stems.specs.RowViews.{row_of}
use Rattle.elasticlunr_stems.proofs.safe.get_no_longer.Given as goal

abbrev pub invariant-loop-row : goal.invariant-loop-row
invariant-loop-row l =
    get_no_longer l.longest (map row_of (drop l.row-index l.rows)) ≡ get_no_longer l.len (map row_of l.rows)
