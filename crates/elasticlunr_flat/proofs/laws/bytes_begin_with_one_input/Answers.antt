use Rattle.elasticlunr_flat.specs.OneWay.{input_one_way}
use Rattle.elasticlunr_flat.proofs.laws.bytes_begin_with_one_input.Goals as goal

pub returns : goal.returns
returns c = input_one_way
