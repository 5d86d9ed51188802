use Rattle.std.proofs.Common.{length}
use Rattle.std.specs.Prelude.{⊤}
use Rattle.elasticlunr_search.proofs.rebuild.read_tries.Given as goal

abbrev pub invariant-tries : goal.invariant-tries
invariant-tries l = ⊤

abbrev pub decreases-tries : goal.decreases-tries
decreases-tries l = length l.reader
