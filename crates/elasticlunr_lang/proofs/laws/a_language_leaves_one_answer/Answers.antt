use Rattle.elasticlunr_text.proofs.StageLemmas.{one-MayLeaveAll}
use Rattle.elasticlunr_lang.proofs.laws.a_language_leaves_one_answer.Goals as goal

pub returns : goal.returns
returns g c = λ as_pipeline token left other scalar one two.
    one-MayLeaveAll (λ b. (goal.PipelineFn-dyn g (b.vtable, b.value)).leaves b.value) c.args.pipeline.now.queue.items
    token left other
    ((as_pipeline token left scalar).1 one) ((as_pipeline token other scalar).1 two)
