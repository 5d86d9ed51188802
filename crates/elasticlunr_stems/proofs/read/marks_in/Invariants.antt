use Rattle.std.proofs.Common.{◌≡◌, ◌++◌, map, option_map, length}
use Rattle.elasticlunr_stems.specs.Reading.{marks_in}
use Rattle.elasticlunr_stems.specs.Views.{mark_of, texts}
use Rattle.elasticlunr_stems.proofs.read.marks_in.Given as goal

abbrev pub invariant-loop-rest : goal.invariant-loop-rest
invariant-loop-rest l =
    option_map (λ more. map mark_of l.marks.items ++ more) (marks_in (texts l.rest)) ≡ marks_in (texts l.words)

abbrev pub decreases-loop-rest : goal.decreases-loop-rest
decreases-loop-rest l = length l.rest
