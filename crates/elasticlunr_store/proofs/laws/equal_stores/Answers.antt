use Rattle.elasticlunr_store.specs.Equal.{contents_Decides}
use Rattle.elasticlunr_store.proofs.laws.equal_stores.Goals as goal

pub returns : goal.returns
returns c = contents_Decides
