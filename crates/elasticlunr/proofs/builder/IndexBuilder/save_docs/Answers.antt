use Rattle.std.proofs.Common.{refl}
use Rattle.std.proofs.Common.{rules}
use Rattle.elasticlunr.proofs.builder.IndexBuilder.save_docs.Goals as goal

pub returns : goal.returns
returns g c = refl

pub invariant_of-self : goal.invariant_of-self
invariant_of-self g c = search rules
