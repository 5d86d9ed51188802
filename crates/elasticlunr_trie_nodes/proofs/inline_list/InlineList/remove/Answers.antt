use Rattle.std.proofs.Common.{rules}
use Rattle.elasticlunr_trie_nodes.proofs.inline_list.InlineList.remove.Goals as goal

pub returns-in-None : goal.returns-in-None
returns-in-None g c = search rules

pub returns-in-One : goal.returns-in-One
returns-in-One g c = search rules

pub returns-in-Many : goal.returns-in-Many
returns-in-Many g c = search rules
