use Rattle.std.proofs.Common.{rules}
use Rattle.elasticlunr_ranking.proofs.hits.key_of.Goals as goal

pub returns-clause-told : goal.returns-clause-told
returns-clause-told c = search rules

pub returns-clause-key : goal.returns-clause-key
returns-clause-key c = search rules
