use Rattle.std.proofs.Common.{arith, rules}
use Rattle.elasticlunr_flat.proofs.Fields.{number_short, number_is_read}
use Rattle.elasticlunr_flat.proofs.reader.Reader.number.Goals as goal

pub returns-in_default-clause-malformed : goal.returns-in_default-clause-malformed
returns-in_default-clause-malformed c = number_short c.args.self.now.rest.now (omega arith)

pub returns-clause-ok : goal.returns-clause-ok
returns-clause-ok c = number_is_read c.args.self.now.rest.now c.from_le_bytes.result c.in-len4-up.len_at_least
    (search rules) (search rules) (search rules) (search rules) c.from_le_bytes.ensures c.from_le_bytes.type_inv
