use Rattle.std.proofs.Common.{sym, ap}
use Rattle.elasticlunr_job_format.specs.JobKeys.{key_name}
use Rattle.std.proofs.Common.{rules}
use Rattle.elasticlunr_job_format.proofs.key.Key.name.Goals as goal

pub returns-in-Ref : goal.returns-in-Ref
returns-in-Ref c = sym (ap key_name c.in-Ref.is)

pub returns-in-Fields : goal.returns-in-Fields
returns-in-Fields c = search rules

pub returns-in-Docs : goal.returns-in-Docs
returns-in-Docs c = search rules

pub returns-in-Save : goal.returns-in-Save
returns-in-Save c = search rules

pub returns-in-Lang : goal.returns-in-Lang
returns-in-Lang c = search rules

pub returns-in-Pretty : goal.returns-in-Pretty
returns-in-Pretty c = search rules

pub returns-in-Remove : goal.returns-in-Remove
returns-in-Remove c = search rules

pub returns-in-Compact : goal.returns-in-Compact
returns-in-Compact c = search rules
