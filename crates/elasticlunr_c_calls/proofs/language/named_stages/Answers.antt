use Rattle.elasticlunr_c_calls.proofs.Stages.{keeps_are_known, leave_as_is}
use Rattle.elasticlunr_c_calls.proofs.language.named_stages.Goals as goal

pub returns-clause-leaves : goal.returns-clause-leaves
returns-clause-leaves g c = λ token left text. leave_as_is _ _ c.loop-name.invariant.keep token left

pub returns-clause-known : goal.returns-clause-known
returns-clause-known g c = keeps_are_known _ c.loop-name.invariant.keep
