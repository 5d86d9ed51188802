use Rattle.std.proofs.Common.{arith, rules}
use Rattle.std.proofs.lemmas.Grind.{common_steps}
use Rattle.elasticlunr_input.proofs.counts.counts_of.Goals as goal

pub returns-clause-counts : goal.returns-clause-counts
returns-clause-counts c = grind (arith, common_steps)

pub returns-clause-without_token : goal.returns-clause-without_token
returns-clause-without_token c = search rules
