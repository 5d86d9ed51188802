use Rattle.elasticlunr_text.specs.Trimmers.{keeps}
use Rattle.elasticlunr_text.proofs.TrimmingLaws.{IsTrimmed-left}
use Rattle.elasticlunr_text.proofs.laws.a_trimmer_cuts_what_is_not_of_its_class.Goals as goal

pub returns : goal.returns
returns c = λ trimmer token left e. IsTrimmed-left (keeps trimmer) token left e
