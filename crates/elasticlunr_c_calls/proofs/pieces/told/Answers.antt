use Rattle.std.proofs.Common.{rules}
use Rattle.elasticlunr_c_calls.proofs.pieces.told.Goals as goal

pub returns-in-Ok-clause-ok : goal.returns-in-Ok-clause-ok
returns-in-Ok-clause-ok c = search rules

pub returns-in_ok-line-in-Err-TooLarge-clause-ok : goal.returns-in_ok-line-in-Err-TooLarge-clause-ok
returns-in_ok-line-in-Err-TooLarge-clause-ok c = search rules

pub returns-in-Err-Memory-clause-err : goal.returns-in-Err-Memory-clause-err
returns-in-Err-Memory-clause-err c = search rules
