use Rattle.std.proofs.Common.{arith}
use Rattle.elasticlunr_publish.proofs.Listed.{before_its, ends_its, not_so, so}
use Rattle.elasticlunr_publish.proofs.heads.end_of.Goals as goal

pub loop-end-preserved : goal.loop-end-preserved
loop-end-preserved c = record {
  within = omega (arith, c.loop-end.invariant.within);
  none = before_its c.args.name.now c.args.names.now _ c.loop-end.end c.loop-end-test.true
      c.loop-end.invariant.within c.loop-end.invariant.none (not_so c.ne.result _ c.ne.ensures c.if-ne.true);
}

pub returns-else-ne-clause-ends : goal.returns-else-ne-clause-ends
returns-else-ne-clause-ends c = ends_its c.args.name.now c.args.names.now _ c.loop-end.end
    c.loop-end.invariant.within (so c.ne.result _ c.ne.ensures c.if-ne.false)
