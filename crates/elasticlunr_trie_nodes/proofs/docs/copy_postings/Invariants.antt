use Rattle.std.proofs.Common.{take}
use Rattle.std.specs.FinMap.{entries, get}
use Rattle.elasticlunr_trie_nodes.specs.Names.{under_names}
use Rattle.elasticlunr_trie_nodes.specs.Table.{postings_of}
use Rattle.elasticlunr_trie_nodes.proofs.Gathered.{Gathered}
use Rattle.elasticlunr_trie_nodes.proofs.docs.copy_postings.Given as goal

-- the postings so far
abbrev pub invariant-loop-i : goal.invariant-loop-i
invariant-loop-i l = Gathered (λ r. get (postings_of l.docs.entries) r)
    (under_names l.names (take l.i (entries l.postings))) (under_names l.names (entries l.postings))
