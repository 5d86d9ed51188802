use Rattle.std.proofs.Common.{refl}
use Rattle.elasticlunr_json_place.proofs.place.is_first.Goals as goal

pub returns : goal.returns
returns c = refl
