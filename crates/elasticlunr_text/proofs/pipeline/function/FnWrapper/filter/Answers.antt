use Rattle.elasticlunr_text.proofs.StageLemmas.{MayAnswer-call}
use Rattle.elasticlunr_text.proofs.pipeline.function.FnWrapper.filter.Goals as goal

pub returns-clause-answer : goal.returns-clause-answer
returns-clause-answer g c = MayAnswer-call c.args.self.now c.args.alloc c.args.token c.function.result
    c.function.ensures.0
