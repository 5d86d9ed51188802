use Rattle.elasticlunr.proofs.FoundAfter.{calls_are_read}
use Rattle.elasticlunr.proofs.FoundAfter as after
use Rattle.elasticlunr.proofs.laws.found.calls_tell_tokens.Goals as goal

pub returns-clause-tokens : goal.returns-clause-tokens
returns-clause-tokens g c = λ language one. after.calls_tell_tokens _ one

pub returns-clause-read : goal.returns-clause-read
returns-clause-read g c = λ language. calls_are_read _
