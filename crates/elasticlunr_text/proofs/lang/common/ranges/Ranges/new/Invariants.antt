use Rattle.elasticlunr_text.proofs.JoinLemmas.{Joining}
use Rattle.elasticlunr_text.proofs.lang.common.ranges.Ranges.new.Given as goal

-- the ranges so far are joined
abbrev pub invariant-loop-range : goal.invariant-loop-range
invariant-loop-range l = Joining l.initial.last l.others l.range-index l.joined.items l.last
