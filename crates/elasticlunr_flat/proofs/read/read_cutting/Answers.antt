use Rattle.elasticlunr_flat.proofs.Exits.{at_exit}
use Rattle.elasticlunr_flat.proofs.Parts.{no_cutting}
use Rattle.elasticlunr_flat.proofs.read.read_cutting.Goals as goal

pub returns-in_err-title-clause-malformed : goal.returns-in_err-title-clause-malformed
returns-in_err-title-clause-malformed c = at_exit c.from_residual.result _ _ c.in_err-title.field-0.0
    c.from_residual.ensures.1 (no_cutting c.args.bytes.now) c.in_err-title.ensures.malformed
