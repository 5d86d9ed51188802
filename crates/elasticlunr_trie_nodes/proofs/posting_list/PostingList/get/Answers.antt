use Rattle.std.proofs.Common.{arith, rules}
use Rattle.std.proofs.lemmas.Grind.{common_steps}
use Rattle.elasticlunr_trie_nodes.proofs.posting_list.PostingList.get.Goals as goal

pub returns-in-None : goal.returns-in-None
returns-in-None c = search rules

pub returns-in-One : goal.returns-in-One
returns-in-One c = search rules

pub returns-in-Many : goal.returns-in-Many
returns-in-Many c = grind (arith, common_steps)

pub returns-in-Long : goal.returns-in-Long
returns-in-Long c = grind (arith, common_steps)
