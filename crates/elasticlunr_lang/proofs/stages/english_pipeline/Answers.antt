use Rattle.elasticlunr_lang.proofs.StageLemmas.{english-leaves}
use Rattle.elasticlunr_lang.proofs.stages.english_pipeline.Goals as goal

pub returns-clause-leaves : goal.returns-clause-leaves
returns-clause-leaves g c = english-leaves _ _ _ _ c.in_ok-pipeline.ensures.items c.in_ok-filter.ensures.words
