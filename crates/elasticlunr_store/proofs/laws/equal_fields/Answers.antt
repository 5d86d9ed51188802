use Rattle.elasticlunr_store.specs.EqualOptions.{field_Decides}
use Rattle.elasticlunr_store.proofs.laws.equal_fields.Goals as goal

pub returns : goal.returns
returns c = field_Decides
