use Rattle.std.proofs.Common.{rules}
use Rattle.elasticlunr_text.proofs.lang.ar.StemmerPipelineFn.name.Goals as goal

pub returns : goal.returns
returns c = search rules
