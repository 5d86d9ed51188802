use Rattle.elasticlunr_store.specs.EqualOptions.{options_Decides}
use Rattle.elasticlunr_store.proofs.laws.equal_options.Goals as goal

pub returns : goal.returns
returns c = options_Decides
