use Rattle.elasticlunr_diagnostics.proofs.Called.{same_tested}
use Rattle.elasticlunr_diagnostics.proofs.language.same_but_for_case.Goals as goal

pub returns : goal.returns
returns c = same_tested _ _ _ c.eq_ignore_ascii_case.ensures.test
