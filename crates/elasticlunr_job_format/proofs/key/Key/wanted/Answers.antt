use Rattle.std.proofs.Common.{inl, inr, sym, ap}
use Rattle.elasticlunr_job_format.specs.JobKeys.{wanted_under}
use Rattle.std.proofs.Common.{rules}
use Rattle.elasticlunr_job_format.proofs.key.Key.wanted.Goals as goal

pub returns-in-Ref : goal.returns-in-Ref
returns-in-Ref c = elim c.in-Ref.is [ inl is ↦ sym (ap wanted_under is) | inr is ↦ sym (ap wanted_under is) ]

pub returns-in-Fields : goal.returns-in-Fields
returns-in-Fields c = search rules

pub returns-in-Docs : goal.returns-in-Docs
returns-in-Docs c = search rules

pub returns-in-Save : goal.returns-in-Save
returns-in-Save c = search rules
