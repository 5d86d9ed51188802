use Rattle.std.proofs.Common.{rules}
use Rattle.elasticlunr_trie_nodes.proofs.child.Child.new.Goals as goal

pub returns-then-number-ge-NODES-clause-err : goal.returns-then-number-ge-NODES-clause-err
returns-then-number-ge-NODES-clause-err c = search rules

pub invariant_of-result : goal.invariant_of-result
invariant_of-result c = search rules

pub returns-clause-ok : goal.returns-clause-ok
returns-clause-ok c = search rules
