use Rattle.elasticlunr_flat.proofs.Exits.{at_exit}
use Rattle.elasticlunr_flat.proofs.Parts.{no_search}
use Rattle.elasticlunr_flat.proofs.search.SearchItem.read.Goals as goal

pub returns-in_err-query-clause-malformed : goal.returns-in_err-query-clause-malformed
returns-in_err-query-clause-malformed c = at_exit c.from_residual.result _ _ c.in_err-query.field-0.0
    c.from_residual.ensures.1 (no_search c.args.reader.now.rest.now) c.in_err-query.ensures.malformed
