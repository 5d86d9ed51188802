use Rattle.std.proofs.Common.{All}
use Rattle.elasticlunr_stem_cache.specs.Entries.{IsRight}
use Rattle.elasticlunr_stem_cache.proofs.cache.moved.Given as goal

-- what is right in these slots and the others is right in what is left of these and in the others
abbrev pub invariant-loop-slot : goal.invariant-loop-slot
invariant-loop-slot l = (language : _) (version : _) → All (IsRight language version) l.fn.slots.items
    → All (IsRight language version) l.fn.others.items
    → All (IsRight language version) l.slot-iterator.rest.items × All (IsRight language version) l.others.items
