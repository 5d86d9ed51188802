use Rattle.elasticlunr_print.proofs.Fresh.{fresh_of}
use Rattle.elasticlunr_print.proofs.laws.removal.each_index_can_be_rebuilt.Goals as goal

pub returns : goal.returns
returns c = fresh_of
