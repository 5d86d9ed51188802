use Rattle.std.proofs.Common.{rules}
use Rattle.elasticlunr_trie_nodes.proofs.lists.unlist.Goals as goal

pub returns-else-number-len-clause-keeps : goal.returns-else-number-len-clause-keeps
returns-else-number-len-clause-keeps c = search rules
