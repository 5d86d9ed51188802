use Rattle.std.proofs.Common.{Some, ap}
use Rattle.elasticlunr_text.proofs.lang.en.trim.trimmer.Goals as goal

pub returns-clause-left : goal.returns-clause-left
returns-clause-left c = ap Some c.cut.ensures
