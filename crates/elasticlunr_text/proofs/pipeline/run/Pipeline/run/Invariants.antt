use Rattle.elasticlunr_text.specs.Text.{texts_of}
use Rattle.elasticlunr_text.specs.Stages.{MayRun}
use Rattle.elasticlunr_text.proofs.pipeline.run.Pipeline.run.Given as goal

-- the kept tokens are what a run on the tokens so far may leave
abbrev pub invariant-loop-token : goal.invariant-loop-token
invariant-loop-token g l =
    MayRun (λ b. (goal.PipelineFn-dyn g (b.vtable, b.value)).leaves b.value) l.self.queue.items (texts_of l.yielded)
    (texts_of l.kept.items)
