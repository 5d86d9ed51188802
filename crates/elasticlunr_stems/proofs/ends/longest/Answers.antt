use Rattle.std.proofs.Common.{arith}
use Rattle.elasticlunr_stems.specs.RowViews.{row_of}
use Rattle.elasticlunr_stems.proofs.EndLemmas.{rows-at, ends-yes, cut-at}
use Rattle.elasticlunr_stems.proofs.ends.longest.Goals as goal

pub returns-in-loop-row : goal.returns-in-loop-row
returns-in-loop-row c =
    let text = c.args.text.now in
    let row = c.row-item.result in
    let front = c.in-Some.front.now in
    let s = c.as_slice.result.now in
    let cases = c.in-Some.ensures.cases in
    let at = rows-at c.args.rows.now c.loop-row.row-index row (omega arith) c.row-item.is in
    let ends = ends-yes c.args.region text s front (row_of row) c.as_slice.ensures.value cases.0 cases.2
    c.if-region-front.true in
    cut-at c.args.region text front s (row_of row) _ _ _ at c.loop-row.invariant.same c.loop-row.invariant.ordered ends
    c.as_slice.ensures.value cases.2
