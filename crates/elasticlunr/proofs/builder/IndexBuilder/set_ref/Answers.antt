use Rattle.std.proofs.Common.{ap}
use Rattle.elasticlunr.specs.Builder.{chosen}
use Rattle.elasticlunr.proofs.builder.IndexBuilder.set_ref.Goals as goal

pub returns-clause-chosen : goal.returns-clause-chosen
returns-clause-chosen g c = ap (λ name. record (chosen c.args.self) { reference_field = name }) c.in_ok-name.ensures.ok
