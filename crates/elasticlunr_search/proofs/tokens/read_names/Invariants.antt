use Rattle.std.proofs.Common.{length}
use Rattle.std.specs.Prelude.{⊤}
use Rattle.elasticlunr_search.proofs.tokens.read_names.Given as goal

abbrev pub invariant-names : goal.invariant-names
invariant-names l = ⊤

abbrev pub decreases-names : goal.decreases-names
decreases-names l = length l.reader
