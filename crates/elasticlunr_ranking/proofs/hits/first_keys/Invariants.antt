use Rattle.std.proofs.Common.{List, take, heap_items}
use Rattle.std.specs.BinaryHeap.{IsHeap}
use Rattle.elasticlunr_ranking.specs.Held.{told}
use Rattle.elasticlunr_ranking.specs.Keys.{Key, key_cmp}
use Rattle.elasticlunr_ranking.proofs.Keeping.{IsSplit}
use Rattle.elasticlunr_ranking.proofs.hits.first_keys.Given as goal

-- the first keys of the documents so far
abbrev pub invariant-loop-reference : goal.invariant-loop-reference
invariant-loop-reference l = IsHeap key_cmp (heap_items l.kept)
    × ((dropped : List Key) × IsSplit l.limit (told (take l.reference-index l.scores)) (heap_items l.kept) dropped)
