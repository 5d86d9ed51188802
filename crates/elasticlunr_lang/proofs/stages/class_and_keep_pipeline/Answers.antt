use Rattle.elasticlunr_lang.proofs.StageLemmas.{keep-leaves}
use Rattle.elasticlunr_lang.proofs.stages.class_and_keep_pipeline.Goals as goal

pub returns-clause-leaves : goal.returns-clause-leaves
returns-clause-leaves g c = keep-leaves _ _ _ _ _ c.in_ok-push.ensures.items c.in_ok-pipeline.ensures.leaves
