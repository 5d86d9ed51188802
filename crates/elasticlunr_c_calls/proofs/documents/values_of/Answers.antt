use Rattle.std.proofs.Common.{arith, rules}
use Rattle.std.proofs.lemmas.Grind.{common_steps}
use Rattle.elasticlunr_c_calls.proofs.documents.values_of.Goals as goal

pub loop-value-init : goal.loop-value-init
loop-value-init c = search rules

pub loop-value-preserved : goal.loop-value-preserved
loop-value-preserved c = grind (arith, common_steps)

pub returns : goal.returns
returns c = grind (arith, common_steps)
