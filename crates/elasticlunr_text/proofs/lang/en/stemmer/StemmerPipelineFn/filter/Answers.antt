use Rattle.std.proofs.Common.{Some, ap}
use Rattle.elasticlunr_text.specs.Text.{text_of}
use Rattle.elasticlunr_text.proofs.lang.en.stemmer.StemmerPipelineFn.filter.Goals as goal

pub returns-clause-leaves : goal.returns-clause-leaves
returns-clause-leaves c = ap Some ((c.args.self.now.has_stems (text_of c.args.token)).1.1 _ c.in_ok-stem.ensures.stem)

pub returns-clause-stem : goal.returns-clause-stem
returns-clause-stem c = c.in_ok-stem.ensures.stem
