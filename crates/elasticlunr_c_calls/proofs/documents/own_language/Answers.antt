use Rattle.std.proofs.Common.{arith, rules}
use Rattle.std.proofs.lemmas.Grind.{common_steps}
use Rattle.elasticlunr_c_calls.proofs.documents.own_language.Goals as goal

pub loop-stage-init : goal.loop-stage-init
loop-stage-init c = search rules

pub loop-stage-preserved : goal.loop-stage-preserved
loop-stage-preserved c = grind (arith, common_steps)

pub returns-clause-named : goal.returns-clause-named
returns-clause-named c = grind (arith, common_steps)
