use Rattle.std.proofs.Common.{◌-◌}
use Rattle.elasticlunr_json_place.proofs.seek.trimmed.Given as goal

abbrev pub decreases-loop-start : goal.decreases-loop-start
decreases-loop-start l = l.end - l.start

abbrev pub decreases-loop-end : goal.decreases-loop-end
decreases-loop-end l = l.end - l.start
