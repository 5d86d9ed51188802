use Rattle.std.proofs.Common.{rules}
use Rattle.elasticlunr_c_calls.proofs.answers.answer_to.Goals as goal

pub returns : goal.returns
returns c = search rules
