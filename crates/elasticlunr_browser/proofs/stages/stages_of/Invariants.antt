use Rattle.std.proofs.Common.{map, take}
use Rattle.serde_json.specs.View.{view}
use Rattle.elasticlunr_browser.specs.Kinds.{HoldsStages}
use Rattle.elasticlunr_browser.proofs.stages.stages_of.Given as goal

-- the values so far are those of the stages so far
abbrev pub invariant-loop-stage : goal.invariant-loop-stage
invariant-loop-stage g l = HoldsStages (take l.stage-index l.pipeline.queue.items) (map view l.values.items)
