use Rattle.std.proofs.Common.{arith}
use Rattle.elasticlunr_trie_nodes.proofs.Unlisted.{has_none}
use Rattle.elasticlunr_trie_nodes.proofs.lists.place_in.Goals as goal

pub returns-clause-none : goal.returns-clause-none
returns-clause-none c = has_none c.args.list.now.items c.args.k (λ q lt. c.loop-i.invariant.1 q (omega arith) lt)
