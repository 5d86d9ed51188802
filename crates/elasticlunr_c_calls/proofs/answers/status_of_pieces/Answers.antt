use Rattle.std.proofs.Common.{rules}
use Rattle.elasticlunr_c_calls.proofs.answers.status_of_pieces.Goals as goal

pub returns-in-Made : goal.returns-in-Made
returns-in-Made c = search rules

pub returns-in-Refused : goal.returns-in-Refused
returns-in-Refused c = search rules
