use Rattle.elasticlunr_store.proofs.WrittenOptions.{written}
use Rattle.elasticlunr_store.proofs.laws.written_options_are_read.Goals as goal

pub returns : goal.returns
returns c = written
