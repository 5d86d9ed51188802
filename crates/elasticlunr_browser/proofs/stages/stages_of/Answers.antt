use Rattle.std.proofs.Common.{rules}
use Rattle.elasticlunr_browser.proofs.StageLemmas.{one_stage}
use Rattle.elasticlunr_browser.proofs.stages.stages_of.Goals as goal

pub loop-stage-preserved : goal.loop-stage-preserved
loop-stage-preserved g c =
    one_stage c.args.pipeline.now.queue.items c.loop-stage.stage-index c.stage-item.result c.loop-stage.values.items _
    c.in_ok-found.found (search rules) (search rules) c.loop-stage.invariant c.in_ok-found.ensures
    c.in_ok-push_some.ensures
