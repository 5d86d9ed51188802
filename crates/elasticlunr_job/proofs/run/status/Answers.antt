use Rattle.std.proofs.Common.{rules, ◌≡◌, ◌∙◌, Ok, ap, sym}
use Rattle.elasticlunr_job.specs.declared.outcome.Outcome.TheVariants.{Refused}
use Rattle.elasticlunr_job.specs.Status.{status_of}
use Rattle.elasticlunr_job.proofs.run.status.Goals as goal

pub returns-in-Ok-Refused : goal.returns-in-Ok-Refused
returns-in-Ok-Refused c =
    let refused : c.in-Ok-Refused.field-0 ≡ Refused c.in-Ok-Refused.field-0-0 = search rules in
    ap status_of (sym (c.in-Ok-Refused.is ∙ ap Ok refused))

pub returns-in-Ok-Printed : goal.returns-in-Ok-Printed
returns-in-Ok-Printed c = search rules

pub returns-in-Err : goal.returns-in-Err
returns-in-Err c = search rules
