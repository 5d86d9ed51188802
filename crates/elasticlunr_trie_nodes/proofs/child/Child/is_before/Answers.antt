use Rattle.std.proofs.Common.{rules}
use Rattle.elasticlunr_trie_nodes.proofs.child.Child.is_before.Goals as goal

pub returns : goal.returns
returns c = search rules
