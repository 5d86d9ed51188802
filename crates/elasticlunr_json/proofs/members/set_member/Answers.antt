use Rattle.std.proofs.Common.{rules}
use Rattle.elasticlunr_json.proofs.members.set_member.Goals as goal

pub returns-clause-put : goal.returns-clause-put
returns-clause-put c = search rules

pub returns-clause-stays : goal.returns-clause-stays
returns-clause-stays c = search rules

pub returns-clause-ordered : goal.returns-clause-ordered
returns-clause-ordered c = search rules
