use Rattle.std.proofs.Common.{◌≡◌, ◌++◌, map, option_map, drop}
use Rattle.elasticlunr_stems.specs.Reading.{steps_in}
use Rattle.elasticlunr_stems.specs.Views.{step_of, texts}
use Rattle.elasticlunr_stems.proofs.read.steps_in.Given as goal

abbrev pub invariant-loop-line : goal.invariant-loop-line
invariant-loop-line l =
    option_map (λ more. map step_of l.steps.items ++ more) (steps_in (texts (drop l.line-index l.lines)))
    ≡ steps_in (texts l.lines)
