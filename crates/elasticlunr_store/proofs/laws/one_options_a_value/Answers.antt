use Rattle.elasticlunr_store.proofs.OneOptions.{one_options}
use Rattle.elasticlunr_store.proofs.laws.one_options_a_value.Goals as goal

pub returns : goal.returns
returns c a b v first second = one_options v a b first second
