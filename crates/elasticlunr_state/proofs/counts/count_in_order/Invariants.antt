use Rattle.std.specs.BTreeMap.{get_by_text}
use Rattle.elasticlunr_state.specs.Counted.{AreCounts}
use Rattle.elasticlunr_state.proofs.counts.count_in_order.Given as goal

abbrev pub invariant-loop-token : goal.invariant-loop-token
invariant-loop-token l = AreCounts l.yielded (get_by_text l.counts)
