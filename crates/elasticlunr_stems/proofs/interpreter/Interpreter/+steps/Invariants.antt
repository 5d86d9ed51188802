use Rattle.std.proofs.Common.{◌≡◌, ◌≤◌, ◌+◌, ◌*◌, [], length, take, drop}
use Rattle.std.specs.List.{fold}
use Rattle.elasticlunr_stems.specs.Stems.{type_one}
use Rattle.elasticlunr_stems.specs.Views.{applied_in}
use Rattle.elasticlunr_stems.proofs.interpreter.Interpreter.+steps.Given as goal

abbrev pub decreases-apply : goal.decreases-apply
decreases-apply l = 3 * l.depth

abbrev pub decreases-both : goal.decreases-both
decreases-both l = 3 * l.depth + 1

abbrev pub decreases-carry_out : goal.decreases-carry_out
decreases-carry_out l = 3 * l.depth + 2

abbrev pub decreases-cut : goal.decreases-cut
decreases-cut l = 3 * l.depth + 1

abbrev pub decreases-either : goal.decreases-either
decreases-either l = 3 * l.depth + 1

abbrev pub decreases-fails : goal.decreases-fails
decreases-fails l = 3 * l.depth + 1

abbrev pub decreases-keep : goal.decreases-keep
decreases-keep l = 3 * l.depth + 1

abbrev pub decreases-sweep : goal.decreases-sweep
decreases-sweep l = 3 * l.depth + 1

-- what the rest makes of the text typed so far is what all makes of nothing
abbrev pub invariant-sweep-loop-c : goal.invariant-sweep-loop-c
invariant-sweep-loop-c l =
    let step = type_one (applied_in l.self l.depth l.sweep.1) in
    record {
      typed : fold step (take l.typed l.buffer.items) (drop l.c-index l.c-items) ≡ fold step [] l.c-items;
      within : l.typed ≤ length l.buffer.items;
    }
