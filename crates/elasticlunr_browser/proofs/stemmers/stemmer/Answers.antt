use Rattle.std.proofs.Common.{rules}
use Rattle.elasticlunr_browser.proofs.stemmers.stemmer.Goals as goal

pub returns : goal.returns
returns c = search rules
