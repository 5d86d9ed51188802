use Rattle.std.proofs.Common.{◌≡◌, take}
use Rattle.std.specs.FinMap.{entries}
use Rattle.elasticlunr_trie_nodes.specs.Names.{under_names}
use Rattle.elasticlunr_trie.specs.Tokens.{told_postings}
use Rattle.elasticlunr_trie.proofs.inverted_index.postings.in_name_order.Given as goal

-- the postings so far
abbrev pub invariant-loop-i : goal.invariant-loop-i
invariant-loop-i l = told_postings l.named.items ≡ under_names l.names (take l.i (entries l.postings))
