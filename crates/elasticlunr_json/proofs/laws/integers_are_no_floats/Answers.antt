use Rattle.elasticlunr_json.proofs.Told.{no_float}
use Rattle.elasticlunr_json.proofs.laws.integers_are_no_floats.Goals as goal

pub returns : goal.returns
returns c = no_float
