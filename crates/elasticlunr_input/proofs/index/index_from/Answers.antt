use Rattle.std.proofs.Common.{rules}
use Rattle.elasticlunr_input.proofs.index.index_from.Goals as goal

pub returns-clause-ok : goal.returns-clause-ok
returns-clause-ok g c = search rules

pub returns-clause-counts : goal.returns-clause-counts
returns-clause-counts g c = search rules

pub returns-clause-warnings : goal.returns-clause-warnings
returns-clause-warnings g c = search rules

pub returns-clause-err : goal.returns-clause-err
returns-clause-err g c = search rules

pub returns-clause-device : goal.returns-clause-device
returns-clause-device g c = search rules
