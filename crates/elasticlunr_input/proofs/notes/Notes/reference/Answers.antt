use Rattle.std.proofs.Common.{arith, rules}
use Rattle.std.proofs.lemmas.Grind.{common_steps}
use Rattle.elasticlunr_input.proofs.notes.Notes.reference.Goals as goal

pub returns-clause-warnings : goal.returns-clause-warnings
returns-clause-warnings c = grind (arith, common_steps)

pub returns-clause-number : goal.returns-clause-number
returns-clause-number c = search rules

pub returns-clause-taken : goal.returns-clause-taken
returns-clause-taken c = search rules

pub returns-clause-seen : goal.returns-clause-seen
returns-clause-seen c = search rules

pub returns-clause-words : goal.returns-clause-words
returns-clause-words c = search rules

pub returns-clause-known : goal.returns-clause-known
returns-clause-known c = search rules
