use Rattle.std.proofs.Common.{rules}
use Rattle.elasticlunr_c_calls.proofs.answers.status_of_fault.Goals as goal

pub returns-in-Malformed : goal.returns-in-Malformed
returns-in-Malformed c = search rules

pub returns-in-Memory : goal.returns-in-Memory
returns-in-Memory c = search rules
