use Rattle.std.proofs.Common.{All}
use Rattle.elasticlunr_pieces.specs.Numbers.{told_texts}
use Rattle.elasticlunr_pieces.specs.Slots.{HasPlace}
use Rattle.elasticlunr_pieces.proofs.slots.slots_of.Given as goal

abbrev pub invariant-loop-place : goal.invariant-loop-place
invariant-loop-place l = All (HasPlace (told_texts l.texts)) l.slots.items
