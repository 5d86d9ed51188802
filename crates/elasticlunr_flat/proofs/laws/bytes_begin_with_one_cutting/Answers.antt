use Rattle.elasticlunr_flat.specs.OneWay.{cutting_one_way}
use Rattle.elasticlunr_flat.proofs.laws.bytes_begin_with_one_cutting.Goals as goal

pub returns : goal.returns
returns c = cutting_one_way
