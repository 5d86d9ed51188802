use Rattle.std.proofs.Common.{rules}
use Rattle.std.proofs.lemmas.Str.{chars_from_encodes}
use Rattle.elasticlunr_job.proofs.kept.is_short.Goals as goal

pub returns-in-Some : goal.returns-in-Some
returns-in-Some c = rw c.in-Some.is (search (rules, chars_from_encodes))

pub returns-in-None : goal.returns-in-None
returns-in-None c = search rules
