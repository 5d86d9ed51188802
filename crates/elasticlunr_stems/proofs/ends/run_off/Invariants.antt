use Rattle.std.proofs.Common.{◌≡◌, ◌≤◌, reverse, take, length}
use Rattle.elasticlunr_stems.specs.Tables.{is_in}
use Rattle.elasticlunr_stems.specs.Stems.{run_off}
use Rattle.elasticlunr_stems.specs.Views.{class_of}
use Rattle.elasticlunr_stems.proofs.ends.run_off.Given as goal

abbrev pub invariant-loop-last : goal.invariant-loop-last
invariant-loop-last l =
    let in_class = is_in (class_of l.class) in
    record {
      same : run_off in_class (reverse l.rest) ≡ run_off in_class (reverse l.text);
      front : take (length l.rest) l.text ≡ l.rest;
      shorter : length l.rest ≤ length l.text;
    }

abbrev pub decreases-loop-last : goal.decreases-loop-last
decreases-loop-last l = length l.rest
