use Rattle.std.proofs.Common.{refl}
use Rattle.elasticlunr_job_format.proofs.key.keys_in_order.Goals as goal

pub returns : goal.returns
returns c = refl
