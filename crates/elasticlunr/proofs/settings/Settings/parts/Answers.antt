use Rattle.std.proofs.Common.{rules}
use Rattle.elasticlunr.proofs.settings.Settings.parts.Goals as goal

pub invariant_of-result : goal.invariant_of-result
invariant_of-result g c = search rules

pub returns-clause-fields : goal.returns-clause-fields
returns-clause-fields g c = search rules

pub returns-clause-ref_field : goal.returns-clause-ref_field
returns-clause-ref_field g c = search rules

pub returns-clause-language : goal.returns-clause-language
returns-clause-language g c = search rules

pub returns-clause-stages : goal.returns-clause-stages
returns-clause-stages g c = search rules

pub returns-clause-tries : goal.returns-clause-tries
returns-clause-tries g c = search rules

pub returns-clause-store : goal.returns-clause-store
returns-clause-store g c = search rules
