use Rattle.std.proofs.Common.{rules}
use Rattle.elasticlunr_ranking.proofs.tally.share.Goals as goal

pub returns-then-exact-eq0 : goal.returns-then-exact-eq0
returns-then-exact-eq0 c = search rules

pub returns-else-exact-eq0 : goal.returns-else-exact-eq0
returns-else-exact-eq0 c = search rules
