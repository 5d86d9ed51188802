use Rattle.std.proofs.Common.{◌∙◌}
use Rattle.elasticlunr_hits.proofs.InOrder.{searched}
use Rattle.elasticlunr_hits.proofs.hits.is_among.Goals as goal

pub returns : goal.returns
returns c sorted = c.is_ok.ensures.value ∙ searched c.args.reference.now c.args.references.now sorted
    c.binary_search.result c.binary_search.ensures.bound c.binary_search.ensures.position
