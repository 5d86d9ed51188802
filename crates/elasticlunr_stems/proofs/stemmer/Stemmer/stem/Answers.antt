use Rattle.std.proofs.Common.{arith}
use Rattle.std.proofs.lemmas.Grind.{common_steps}
use Rattle.elasticlunr_stems.proofs.stemmer.Stemmer.stem.Goals as goal

pub returns : goal.returns
returns c = grind (arith, common_steps)
