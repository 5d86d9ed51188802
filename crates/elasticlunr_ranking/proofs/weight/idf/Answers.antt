use Rattle.std.proofs.Common.{rules}
use Rattle.elasticlunr_ranking.proofs.weight.idf.Goals as goal

pub returns : goal.returns
returns c = search rules
