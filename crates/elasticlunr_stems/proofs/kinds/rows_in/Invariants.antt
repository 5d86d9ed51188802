use Rattle.std.proofs.Common.{◌≡◌, ◌++◌, map, option_map, length}
use Rattle.elasticlunr_stems.specs.Reading.{rows_in}
use Rattle.elasticlunr_stems.specs.Views.{texts}
use Rattle.elasticlunr_stems.specs.RowViews.{row_of}
use Rattle.elasticlunr_stems.proofs.kinds.rows_in.Given as goal

abbrev pub invariant-loop-rest : goal.invariant-loop-rest
invariant-loop-rest l =
    option_map (λ more. map row_of l.rows.items ++ more) (rows_in (texts l.rest)) ≡ rows_in (texts l.words)

abbrev pub decreases-loop-rest : goal.decreases-loop-rest
decreases-loop-rest l = length l.rest
