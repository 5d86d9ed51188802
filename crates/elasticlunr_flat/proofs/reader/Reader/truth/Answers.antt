use Rattle.std.proofs.Common.{arith}
use Rattle.elasticlunr_flat.proofs.Fields.{no_truth}
use Rattle.elasticlunr_flat.proofs.reader.Reader.truth.Goals as goal

pub returns-in_default-clause-malformed : goal.returns-in_default-clause-malformed
returns-in_default-clause-malformed c = no_truth c.args.self.now.rest.now c.number.new.self.rest.now
    c.in_ok-number.field-0 c.in_ok-number.ensures.ok (λ e. omega (arith, e)) (λ e. omega (arith, e))
