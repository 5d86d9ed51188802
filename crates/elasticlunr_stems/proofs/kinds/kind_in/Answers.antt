use Rattle.std.proofs.Common.{arith, rules}
use Rattle.std.proofs.lemmas.Grind.{common_steps}
use Rattle.elasticlunr_stems.proofs.kinds.kind_in.Goals as goal

pub returns-in-43 : goal.returns-in-43
returns-in-43 c = search rules

pub returns-in-64 : goal.returns-in-64
returns-in-64 c = search rules

pub returns-in-46 : goal.returns-in-46
returns-in-46 c = search rules

pub returns-in-45 : goal.returns-in-45
returns-in-45 c = search rules

pub returns-in-38 : goal.returns-in-38
returns-in-38 c = search rules

pub returns-in-124 : goal.returns-in-124
returns-in-124 c = search rules

pub returns-in-33 : goal.returns-in-33
returns-in-33 c = search rules

pub returns-in-61 : goal.returns-in-61
returns-in-61 c = search rules

pub returns-in-126 : goal.returns-in-126
returns-in-126 c = search rules

pub returns-in_default : goal.returns-in_default
returns-in_default c = grind (arith, common_steps)
