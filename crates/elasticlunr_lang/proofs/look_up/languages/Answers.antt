use Rattle.std.proofs.Common.{refl}
use Rattle.elasticlunr_lang.proofs.look_up.languages.Goals as goal

pub returns : goal.returns
returns c = refl
