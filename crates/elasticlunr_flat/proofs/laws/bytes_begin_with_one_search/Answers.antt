use Rattle.elasticlunr_flat.specs.OneWay.{search_one_way}
use Rattle.elasticlunr_flat.proofs.laws.bytes_begin_with_one_search.Goals as goal

pub returns : goal.returns
returns c = search_one_way
