use Rattle.std.proofs.Common.{arith}
use Rattle.elasticlunr_flat.proofs.Parts.{no_byte}
use Rattle.elasticlunr_flat.proofs.search.U8Item.read.Goals as goal

pub returns-then-number-gt255-clause-malformed : goal.returns-then-number-gt255-clause-malformed
returns-then-number-gt255-clause-malformed c = no_byte c.args.reader.now.rest.now c.number.new.self.rest.now
    c.in_ok-number.number c.in_ok-number.ensures.ok (omega arith)
