use Rattle.std.proofs.Common.{arith}
use Rattle.elasticlunr_device.proofs.Devices.{ok_same}
use Rattle.std.proofs.Common.{rules}
use Rattle.elasticlunr_device.proofs.device.FromReadSource.read.Goals as goal

pub returns-in-Ok-clause-bound : goal.returns-in-Ok-clause-bound
returns-in-Ok-clause-bound g c = c.in-Ok.ensures.bound.0

pub returns-in-Ok-clause-bytes : goal.returns-in-Ok-clause-bytes
returns-in-Ok-clause-bytes g c = c.in-Ok.ensures.bytes.0

pub returns-in-Ok-clause-end : goal.returns-in-Ok-clause-end
returns-in-Ok-clause-end g c is = c.in-Ok.ensures.bytes.1 (ok_same c.in-Ok.n 0 is) (omega arith)

pub returns-in-Ok-clause-ok : goal.returns-in-Ok-clause-ok
returns-in-Ok-clause-ok g c = search rules

pub returns-in-Err-clause-end : goal.returns-in-Err-clause-end
returns-in-Err-clause-end g c = search rules

pub returns-in-Err-clause-err : goal.returns-in-Err-clause-err
returns-in-Err-clause-err g c = search rules
