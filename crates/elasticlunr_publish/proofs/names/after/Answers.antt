use Rattle.elasticlunr_publish.proofs.Parts.{front_some, front_none}
use Rattle.elasticlunr_publish.proofs.names.after.Goals as goal

pub returns-clause-some : goal.returns-clause-some
returns-clause-some c = front_some c.strip_prefix.result c.args.beginning.now c.args.bytes.now c.strip_prefix.ensures.cases

pub returns-clause-none : goal.returns-clause-none
returns-clause-none c = front_none c.strip_prefix.result c.args.beginning.now c.args.bytes.now c.strip_prefix.ensures.cases
