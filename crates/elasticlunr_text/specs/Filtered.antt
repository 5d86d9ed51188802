-- The output of a pipeline for one token; for private clauses.
use Rattle.std.specs.Prelude.{Option}
use Rattle.std.specs.declared.alloc.Global.{Global}
use Rattle.std.specs.declared.dyn_box.DynBox.{DynBox}
use Rattle.elasticlunr_text.specs.Text.{Text}
use Rattle.elasticlunr_text.specs.Stages.{MayLeaveAll}
use Rattle.elasticlunr_text.specs.declared.pipeline.run.Pipeline.{Pipeline}

-- this may be the output of the pipeline for the token, where `leaves` relates a boxed stage and a
-- token to its output
abbrev pub MayFilterTo : {f x p calls : _} (leaves : DynBox x Global p → Text → Option Text)
    → Pipeline f x p calls → Text → Option Text → Type 0
MayFilterTo leaves pipeline token left = MayLeaveAll leaves pipeline.queue.items token left
