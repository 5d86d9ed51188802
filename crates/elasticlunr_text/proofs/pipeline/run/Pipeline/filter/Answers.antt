use Rattle.elasticlunr_text.proofs.StageLemmas.{MayLeaveAll-step}
use Rattle.elasticlunr_text.proofs.pipeline.run.Pipeline.filter.Goals as goal

pub loop-stage-preserved : goal.loop-stage-preserved
loop-stage-preserved g c = λ left others.
    c.loop-stage.invariant left
    (MayLeaveAll-step _ _ c.args.self.now.queue.items c.loop-stage.stage-index c.stage-item.result _ _ left
    c.deref-stage-items.ensures.value c.loop-stage-test.true c.stage-item.is
    (rw c.in-Some.is at c.in_ok-left.ensures.left) others)
