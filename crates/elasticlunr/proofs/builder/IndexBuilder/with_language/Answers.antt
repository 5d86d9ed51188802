use Rattle.std.proofs.Common.{rules}
use Rattle.elasticlunr.proofs.builder.IndexBuilder.with_language.Goals as goal

pub returns-clause-chosen : goal.returns-clause-chosen
returns-clause-chosen g c = rw (c.new.ensures.items, c.new-2.ensures.items, c.in_ok-ref_field.ensures.ok)

pub invariant_of-result : goal.invariant_of-result
invariant_of-result g c = search rules
