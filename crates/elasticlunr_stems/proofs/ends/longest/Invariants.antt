use Rattle.std.proofs.Common.{◌≡◌, map, drop, IsTrue}
use Rattle.elasticlunr_stems.specs.Stems.{longest}
use Rattle.elasticlunr_stems.specs.Safe.{are_longest_first}
use Rattle.elasticlunr_stems.specs.RowViews.{row_of}
use Rattle.elasticlunr_stems.proofs.ends.longest.Given as goal

abbrev pub invariant-loop-row : goal.invariant-loop-row
invariant-loop-row l =
    let rest = map row_of (drop l.row-index l.rows) in
    record {
      same : longest l.region l.text rest ≡ longest l.region l.text (map row_of l.rows);
      ordered : IsTrue (are_longest_first rest);
    }
