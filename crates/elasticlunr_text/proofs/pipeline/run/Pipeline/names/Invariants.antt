use Rattle.std.proofs.Common.{◌≡◌, map, take}
use Rattle.elasticlunr_text.specs.Text.{bytes_of}
use Rattle.elasticlunr_text.specs.Stages.{stage_name}
use Rattle.elasticlunr_text.proofs.pipeline.run.Pipeline.names.Given as goal

-- the names of the stages so far
abbrev pub invariant-loop-stage : goal.invariant-loop-stage
invariant-loop-stage g l =
    bytes_of l.names.items ≡ map (stage_name (λ b. (goal.PipelineFn-dyn g (b.vtable, b.value)).name_text b.value))
    (take l.stage-index l.self.queue.items)
