use Rattle.std.specs.HashMap.{get_by_text}
use Rattle.elasticlunr_state.specs.Counted.{AreCounts}
use Rattle.elasticlunr_state.proofs.counts.count_by_hash.Given as goal

abbrev pub invariant-loop-token : goal.invariant-loop-token
invariant-loop-token l = AreCounts l.yielded (get_by_text l.counts)
