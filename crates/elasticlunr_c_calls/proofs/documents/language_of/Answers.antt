use Rattle.std.proofs.Common.{rules}
use Rattle.elasticlunr_c_calls.proofs.documents.language_of.Goals as goal

pub returns-in-Own-clause-named : goal.returns-in-Own-clause-named
returns-in-Own-clause-named c = search rules

pub returns-in-Own-clause-err : goal.returns-in-Own-clause-err
returns-in-Own-clause-err c = search rules
