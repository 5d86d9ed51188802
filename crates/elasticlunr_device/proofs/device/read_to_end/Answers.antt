use Rattle.std.proofs.Common.{Ok, ap}
use Rattle.elasticlunr_device.proofs.Devices.{consumed_all}
use Rattle.elasticlunr_device.proofs.device.read_to_end.Goals as goal

pub returns-in-Err-clause-all : goal.returns-in-Err-clause-all
returns-in-Err-clause-all g c = tt

pub returns-in-Err-clause-unmarked : goal.returns-in-Err-clause-unmarked
returns-in-Err-clause-unmarked g c = tt

pub returns-in-Err-clause-device : goal.returns-in-Err-clause-device
returns-in-Err-clause-device g c is = c.in-Err.ensures.err

pub returns-then-count-eq0-clause-all : goal.returns-then-count-eq0-clause-all
returns-then-count-eq0-clause-all g c =
    let left = g.S.Source.left in (
      consumed_all (left c.args.source.now) (left c.loop-count.source) (left c.read.new.self) c.loop-count.bytes.items
          c.read.new.buf c.in-Ok.count c.loop-count.invariant.1 c.in-Ok.ensures.bytes c.if-count-eq0.true,
      c.in-Ok.ensures.end (ap Ok c.if-count-eq0.true),
    )
