use Rattle.std.proofs.Common.{rules}
use Rattle.elasticlunr_c_calls.proofs.answers.search_answer.Goals as goal

pub returns-in-Ok-Found-default-clause-ok : goal.returns-in-Ok-Found-default-clause-ok
returns-in-Ok-Found-default-clause-ok c = search rules

pub returns-in-Ok-Refused-default-clause-ok : goal.returns-in-Ok-Refused-default-clause-ok
returns-in-Ok-Refused-default-clause-ok c = search rules

pub returns-in-Err-clause-err : goal.returns-in-Err-clause-err
returns-in-Err-clause-err c = search rules
