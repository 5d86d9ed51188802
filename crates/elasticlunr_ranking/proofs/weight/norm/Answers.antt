use Rattle.std.proofs.Common.{rules}
use Rattle.elasticlunr_ranking.proofs.weight.norm.Goals as goal

pub returns-then-length-eq0 : goal.returns-then-length-eq0
returns-then-length-eq0 c = search rules

pub returns-else-length-eq0 : goal.returns-else-length-eq0
returns-else-length-eq0 c = search rules
