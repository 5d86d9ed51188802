use Rattle.std.proofs.lemmas.List.Elements.{All-set}
use Rattle.elasticlunr_pieces.specs.Slots.{HasPlace}
use Rattle.elasticlunr_pieces.proofs.slots.put_slot.Goals as goal

pub returns : goal.returns
returns c texts are is = All-set (HasPlace texts) _ _ _ is are
