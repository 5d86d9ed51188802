use Rattle.std.proofs.Common.{rules}
use Rattle.elasticlunr_ranking.proofs.tally.score_of.Goals as goal

pub returns-then-field-eq0 : goal.returns-then-field-eq0
returns-then-field-eq0 c = search rules

pub returns : goal.returns
returns c = search rules
