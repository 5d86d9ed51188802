-- what was chosen is the nearest of the names so far
use Rattle.std.proofs.Common.{string_bytes, take}
use Rattle.elasticlunr_diagnostics.proofs.Names.{TooFar}
use Rattle.elasticlunr_diagnostics.specs.Nearest.{IsNearest, edits, few, small}
use Rattle.elasticlunr_diagnostics.proofs.nearest.nearest.Given as goal

abbrev pub invariant-loop-name : goal.invariant-loop-name
invariant-loop-name l =
    IsNearest (λ name. edits (string_bytes l.asked) (small name.now)) (few (string_bytes l.asked))
    (take l.name-index l.names) l.best
    × TooFar (λ name. edits (string_bytes l.asked) (small name.now)) (few (string_bytes l.asked)) l.best l.too_many
