use Rattle.std.proofs.Common.{◌≡◌, take}
use Rattle.std.specs.List.{AllByRecursion}
use Rattle.elasticlunr_text.specs.Stages.{names_by}
use Rattle.elasticlunr_text.specs.Text.{bytes_of}
use Rattle.elasticlunr_c_calls.proofs.Stages.{IsKeep}
use Rattle.elasticlunr_c_calls.proofs.language.named_stages.Given as goal

-- the stages so far have the first names, and leave each token as it is
abbrev pub invariant-loop-name : goal.invariant-loop-name
invariant-loop-name g l = record {
  names : names_by (λ z. (goal.PipelineFn-dyn g z).name_text z.1) l.pipeline
      ≡ bytes_of (take l.name-index l.names);
  keep : AllByRecursion IsKeep l.pipeline.queue.items;
}
