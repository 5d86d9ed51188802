use Rattle.elasticlunr_publish.proofs.Parts.{back_some, back_none}
use Rattle.elasticlunr_publish.proofs.names.before.Goals as goal

pub returns-clause-some : goal.returns-clause-some
returns-clause-some c = back_some c.strip_suffix.result c.args.end.now c.args.bytes.now c.strip_suffix.ensures.cases

pub returns-clause-none : goal.returns-clause-none
returns-clause-none c = back_none c.strip_suffix.result c.args.end.now c.args.bytes.now c.strip_suffix.ensures.cases
