use Rattle.elasticlunr_store.proofs.WrittenOptions.{small_boosts}
use Rattle.elasticlunr_store.proofs.laws.boosts_are_small.Goals as goal

pub returns : goal.returns
returns c = small_boosts
