use Rattle.std.proofs.Common.{rules}
use Rattle.elasticlunr_trie_nodes.proofs.branch.attach_to_root.Goals as goal

pub returns-clause-gains : goal.returns-clause-gains
returns-clause-gains c = search rules

pub returns-clause-nodes : goal.returns-clause-nodes
returns-clause-nodes c = search rules
