use Rattle.std.proofs.Common.{ap}
use Rattle.elasticlunr_text.specs.Text.{bytes_of}
use Rattle.elasticlunr.proofs.index.Index.get_fields.Goals as goal

pub returns : goal.returns
returns g c = ap bytes_of c.as_slice.ensures.value
