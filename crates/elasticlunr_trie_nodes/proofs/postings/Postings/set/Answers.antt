use Rattle.std.proofs.Common.{rules}
use Rattle.elasticlunr_trie_nodes.proofs.postings.Postings.set.Goals as goal

pub invariant_of-self : goal.invariant_of-self
invariant_of-self c = search rules

pub returns-clause-ok : goal.returns-clause-ok
returns-clause-ok c = search rules

pub returns-clause-err : goal.returns-clause-err
returns-clause-err c = search rules
