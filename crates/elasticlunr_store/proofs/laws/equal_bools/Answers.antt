use Rattle.elasticlunr_store.specs.EqualOptions.{bool_Decides}
use Rattle.elasticlunr_store.proofs.laws.equal_bools.Goals as goal

pub returns : goal.returns
returns c = bool_Decides
