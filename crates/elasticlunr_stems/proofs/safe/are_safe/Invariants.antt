use Rattle.std.proofs.Common.{◌≡◌, map, drop}
use Rattle.std.specs.List.{list_all}
use Rattle.elasticlunr_stems.specs.Safe.{is_safe}
use Rattle.elasticlunr_stems.specs.Views.{step_of, steps_of}
use Rattle.elasticlunr_stems.proofs.safe.are_safe.Given as goal

abbrev pub invariant-loop-step : goal.invariant-loop-step
invariant-loop-step l =
    list_all (is_safe (steps_of l.steps)) (map step_of (drop l.step-index l.steps))
    ≡ list_all (is_safe (steps_of l.steps)) (map step_of l.steps)
