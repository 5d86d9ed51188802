use Rattle.std.proofs.Common.{subst, sym, All}
use Rattle.std.proofs.lemmas.List.Elements.{All-push}
use Rattle.elasticlunr_stem_cache.specs.Entries.{IsRight}
use Rattle.elasticlunr_stem_cache.proofs.Stems.{none_right}
use Rattle.elasticlunr_stem_cache.proofs.cache.free_slots.Goals as goal

pub loop-preserved : goal.loop-preserved
loop-preserved c = λ language version. subst (All (IsRight language version)) (sym c.in_ok-push.ensures.items)
    (All-push (IsRight language version) c.loop.slots.items _ (c.loop.invariant language version)
    (none_right language version))
