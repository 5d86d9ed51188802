use Rattle.std.proofs.Common.{arith, rules}
use Rattle.std.proofs.lemmas.Grind.{common_steps}
use Rattle.elasticlunr_stems.proofs.kinds.class_in.Goals as goal

pub returns-in_ok-to_vec-in-94 : goal.returns-in_ok-to_vec-in-94
returns-in_ok-to_vec-in-94 c = grind (arith, common_steps)

pub returns-in_ok-to_vec-in_default : goal.returns-in_ok-to_vec-in_default
returns-in_ok-to_vec-in_default c = search rules
