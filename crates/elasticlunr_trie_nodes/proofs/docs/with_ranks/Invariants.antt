use Rattle.std.proofs.Common.{◌≡◌, take, map, slice_index}
use Rattle.std.specs.FinMap.{entries}
use Rattle.elasticlunr_trie_nodes.proofs.docs.with_ranks.Given as goal

-- the postings so far
abbrev pub invariant-loop-i : goal.invariant-loop-i
invariant-loop-i l = l.ranked.items
    ≡ map (λ p. (slice_index l.ranks p.0, p.0, p.1)) (take l.i (entries l.postings))
