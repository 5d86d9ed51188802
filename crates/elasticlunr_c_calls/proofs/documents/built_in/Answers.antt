use Rattle.std.proofs.Common.{inr, refl}
use Rattle.elasticlunr_job.proofs.Stops.{no_language}
use Rattle.elasticlunr_c_calls.proofs.documents.built_in.Goals as goal

pub returns-in-None-clause-err : goal.returns-in-None-clause-err
returns-in-None-clause-err c = inr (refl, no_language _ (c.in-None.ensures.none refl))
