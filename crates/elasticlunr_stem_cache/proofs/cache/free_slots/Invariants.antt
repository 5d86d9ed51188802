use Rattle.std.proofs.Common.{All}
use Rattle.elasticlunr_stem_cache.specs.Entries.{IsRight}
use Rattle.elasticlunr_stem_cache.proofs.cache.free_slots.Given as goal

abbrev pub invariant-loop : goal.invariant-loop
invariant-loop l = (language : _) (version : _) → All (IsRight language version) l.slots.items
