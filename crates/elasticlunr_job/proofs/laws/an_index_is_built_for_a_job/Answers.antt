use Rattle.elasticlunr_text.specs.Stages.{names_by}
use Rattle.elasticlunr_job.proofs.Building.{built_for}
use Rattle.elasticlunr_job.proofs.laws.an_index_is_built_for_a_job.Goals as goal

pub returns : goal.returns
returns g c = λ pipeline rules job language stems same has names leave empty.
    built_for (λ b. (goal.PipelineFn-dyn g b).leaves b.1) rules job language c.args.index.now pipeline
    (names_by (λ b. (goal.PipelineFn-dyn g b).name_text b.1)) _ stems same has names leave empty
