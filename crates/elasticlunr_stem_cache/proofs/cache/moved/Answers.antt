use Rattle.std.proofs.Common.{All, subst}
use Rattle.std.proofs.lemmas.List.Elements.{All-head, All-tail}
use Rattle.elasticlunr_stem_cache.specs.Entries.{IsRight}
use Rattle.elasticlunr_stem_cache.proofs.cache.moved.Goals as goal

pub loop-slot-preserved-in-Some-slot : goal.loop-slot-preserved-in-Some-slot
loop-slot-preserved-in-Some-slot c = λ language version all others.
    let held = c.loop-slot.invariant language version all others in
    let left = subst (All (IsRight language version)) c.in-Some.ensures.steps.0 held.0 in (
      All-tail (IsRight language version) _ _ left,
      c.put_entry.ensures language version held.1
          (All-head (IsRight language version) _ _ left c.in-Some-slot.entry c.in-Some-slot.is),
    )

pub loop-slot-preserved : goal.loop-slot-preserved
loop-slot-preserved c = λ language version all others.
    let held = c.loop-slot.invariant language version all others in (
      All-tail (IsRight language version) _ _
          (subst (All (IsRight language version)) c.in-Some.ensures.steps.0 held.0),
      held.1,
    )
