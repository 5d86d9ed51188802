use Rattle.std.proofs.Common.{arith, rules}
use Rattle.std.proofs.lemmas.Grind.{common_steps}
use Rattle.elasticlunr_stems.proofs.stemmer.reads.from_head.Goals as goal

pub returns-in_default-clause-refused : goal.returns-in_default-clause-refused
returns-in_default-clause-refused c = grind (arith, common_steps)

pub returns-in_default-2-clause-refused : goal.returns-in_default-2-clause-refused
returns-in_default-2-clause-refused c = search rules

pub returns-in_default-3-clause-refused : goal.returns-in_default-3-clause-refused
returns-in_default-3-clause-refused c = grind (arith, common_steps)

pub returns-then-not-are_safe-clause-refused : goal.returns-then-not-are_safe-clause-refused
returns-then-not-are_safe-clause-refused c = grind (arith, common_steps)

pub invariant_of-result : goal.invariant_of-result
invariant_of-result c = search rules

pub returns-clause-read : goal.returns-clause-read
returns-clause-read c = grind (arith, common_steps)
