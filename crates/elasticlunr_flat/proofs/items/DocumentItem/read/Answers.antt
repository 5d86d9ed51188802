use Rattle.elasticlunr_flat.proofs.Exits.{at_exit}
use Rattle.elasticlunr_flat.proofs.Parts.{no_document}
use Rattle.elasticlunr_flat.proofs.items.DocumentItem.read.Goals as goal

pub returns-in_err-read-clause-malformed : goal.returns-in_err-read-clause-malformed
returns-in_err-read-clause-malformed c = at_exit c.from_residual-in_err-read.result _ _ c.in_err-read.field-0.0
    c.from_residual-in_err-read.ensures.1
    (no_document c.args.reader.now.rest.now c.text.new.self.rest.now c.in_ok-text.field-0.now c.in_ok-text.ensures.ok)
    c.in_err-read.ensures.malformed
