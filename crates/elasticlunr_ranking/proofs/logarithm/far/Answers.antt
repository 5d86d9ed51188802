use Rattle.std.proofs.Common.{rules}
use Rattle.elasticlunr_ranking.proofs.logarithm.far.Goals as goal

pub returns : goal.returns
returns c = search rules
