use Rattle.std.proofs.Common.{rules}
use Rattle.elasticlunr_c_calls.proofs.answers.hand_out_bytes.Goals as goal

pub returns : goal.returns
returns c = search rules
