use Rattle.std.proofs.Common.{map}
use Rattle.elasticlunr_flat.proofs.Lists.{AreRead}
use Rattle.elasticlunr_flat.proofs.items.VecItem.read.Given as goal

-- as many items as the loop has counted stand between the number and the rest
abbrev pub invariant-loop : goal.invariant-loop
invariant-loop g l = AreRead g.T.Item.Fits g.T.Item.flat l.initial.reader.rest.now (map g.T.Item.told l.items.items)
    l.reader.rest.now l.counter
