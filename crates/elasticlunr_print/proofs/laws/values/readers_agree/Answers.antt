use Rattle.elasticlunr_print.proofs.Readers.{read_deeper, one_read}
use Rattle.elasticlunr_print.proofs.laws.values.readers_agree.Goals as goal

pub returns : goal.returns
returns c = record { deeper = read_deeper; one = one_read }
