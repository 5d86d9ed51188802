use Rattle.elasticlunr_publish.proofs.Between.{first_some, first_none}
use Rattle.elasticlunr_publish.proofs.names.split_once.Goals as goal

pub returns-clause-some : goal.returns-clause-some
returns-clause-some c = first_some c.args.part.now c.args.text.now c.split_once.result
    c.split_once.ensures.cases

pub returns-clause-none : goal.returns-clause-none
returns-clause-none c = first_none c.args.part.now c.args.text.now c.split_once.result
    c.split_once.ensures.cases
