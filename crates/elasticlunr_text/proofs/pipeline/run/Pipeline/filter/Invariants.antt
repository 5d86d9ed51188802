use Rattle.std.proofs.Common.{ℕ, List, Option, drop}
use Rattle.elasticlunr_text.specs.Text.{text_of}
use Rattle.elasticlunr_text.specs.Stages.{MayLeaveAll}
use Rattle.elasticlunr_text.proofs.pipeline.run.Pipeline.filter.Given as goal

-- what the stages ahead leave of the token so far, all stages leave of the first token
abbrev pub invariant-loop-stage : goal.invariant-loop-stage
invariant-loop-stage g l =
    (left : Option (List ℕ)) →
    MayLeaveAll (λ b. (goal.PipelineFn-dyn g (b.vtable, b.value)).leaves b.value)
    (drop l.stage-index l.self.queue.items) (text_of l.token) left →
    MayLeaveAll (λ b. (goal.PipelineFn-dyn g (b.vtable, b.value)).leaves b.value) l.self.queue.items
    (text_of l.fn.token) left
