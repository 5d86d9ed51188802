use Rattle.elasticlunr_text.proofs.StageLemmas.{one-MayLeaveAll}
use Rattle.elasticlunr_text.proofs.laws.a_token_has_one_answer.Goals as goal

pub returns : goal.returns
returns g c = λ token left other one two.
    one-MayLeaveAll (λ b. (goal.PipelineFn-dyn g (b.vtable, b.value)).leaves b.value) c.args.pipeline.now.queue.items
    token left other one two
