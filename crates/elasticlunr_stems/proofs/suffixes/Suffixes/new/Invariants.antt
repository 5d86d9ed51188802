use Rattle.std.proofs.Common.{◌≡◌, ◌<◌, ℕ, length}
use Rattle.std.specs.List.{filter}
use Rattle.elasticlunr_stems.specs.RowViews.{rows_of, listed_rows, may_end}
use Rattle.elasticlunr_stems.proofs.suffixes.Suffixes.new.Given as goal

abbrev pub invariant-loop-number : goal.invariant-loop-number
invariant-loop-number l = record {
  many : length l.lists.items ≡ l.number;
  each : (number : ℕ) → number < l.number
      → listed_rows l.lists.items number ≡ filter (may_end number) (rows_of l.rows.items);
}
