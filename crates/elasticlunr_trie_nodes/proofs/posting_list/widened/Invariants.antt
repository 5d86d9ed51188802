use Rattle.std.proofs.Common.{◌≡◌, take}
use Rattle.elasticlunr_trie_nodes.proofs.posting_list.widened.Given as goal

-- the postings so far
abbrev pub invariant-loop-i : goal.invariant-loop-i
invariant-loop-i l = l.more.items ≡ take l.i l.list.items
