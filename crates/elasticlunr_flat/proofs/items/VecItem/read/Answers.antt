use Rattle.std.proofs.Common.{rules}
use Rattle.elasticlunr_flat.proofs.Exits.{at_exit}
use Rattle.elasticlunr_flat.proofs.Lists.{no_list}
use Rattle.elasticlunr_flat.proofs.items.VecItem.read.Goals as goal

pub returns-in_err-read-clause-malformed : goal.returns-in_err-read-clause-malformed
returns-in_err-read-clause-malformed g c = at_exit c.from_residual-in_err-read.result _ _ c.in_err-read.field-0.0
    c.from_residual-in_err-read.ensures.1
    (no_list g.T.Item.Fits g.T.Item.flat (g.met.T.Item c.lifetimes (search rules)).one_way
    c.args.reader.now.rest.now c.number.new.self.rest.now _ c.loop.reader.rest.now
    c.in_ok-count.count c.loop.counter c.in_ok-count.ensures.ok c.loop.invariant c.loop-test.true)
    c.in_err-read.ensures.malformed
