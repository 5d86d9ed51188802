use Rattle.std.proofs.Common.{refl}
use Rattle.elasticlunr.proofs.builder.IndexBuilder.with_pipeline.Goals as goal

pub returns : goal.returns
returns g c = refl
