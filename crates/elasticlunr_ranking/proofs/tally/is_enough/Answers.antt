use Rattle.std.proofs.Common.{rules}
use Rattle.elasticlunr_ranking.proofs.tally.is_enough.Goals as goal

pub returns-in-Or : goal.returns-in-Or
returns-in-Or c = search rules

pub returns-in-And : goal.returns-in-And
returns-in-And c = search rules
