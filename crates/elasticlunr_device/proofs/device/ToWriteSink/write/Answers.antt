use Rattle.std.proofs.Common.{arith}
use Rattle.elasticlunr_device.proofs.device.ToWriteSink.write.Goals as goal

pub returns-in-Ok-clause-bound : goal.returns-in-Ok-clause-bound
returns-in-Ok-clause-bound g c = (omega arith, c.in-Ok.ensures.bound)

pub returns-in-Ok-clause-bytes : goal.returns-in-Ok-clause-bytes
returns-in-Ok-clause-bytes g c = c.in-Ok.ensures.bytes
