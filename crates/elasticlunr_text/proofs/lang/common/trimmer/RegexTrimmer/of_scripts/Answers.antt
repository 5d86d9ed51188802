use Rattle.std.proofs.Common.{ap}
use Rattle.elasticlunr_text.specs.Classes.{in_scripts}
use Rattle.std.proofs.Common.{rules}
use Rattle.elasticlunr_text.proofs.lang.common.trimmer.RegexTrimmer.of_scripts.Goals as goal

pub returns-clause-class : goal.returns-clause-class
returns-clause-class c = λ letter. ap (λ scripts. in_scripts scripts letter) c.in_ok-from_slice.ensures.items

pub returns-clause-name : goal.returns-clause-name
returns-clause-name c = search rules
