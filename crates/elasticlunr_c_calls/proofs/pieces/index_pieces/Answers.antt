use Rattle.elasticlunr_flat.specs.Told.{cutting_told}
use Rattle.elasticlunr_job.proofs.Stops.{ok_more}
use Rattle.elasticlunr_c_calls.proofs.Cutting.{only_memory, told_of}
use Rattle.std.proofs.Common.{rules}
use Rattle.elasticlunr_c_calls.proofs.pieces.index_pieces.Goals as goal

pub returns-in-Ok-clause-ok : goal.returns-in-Ok-clause-ok
returns-in-Ok-clause-ok c = ok_more c.told.result _ _ (λ a told. told_of c.args.bytes.now
    (cutting_told c.in_ok-cutting.cutting) c.in-Ok.made a.0 a.1.items
    (record { fits = c.in_ok-cutting.ensures.fits; are = c.in_ok-cutting.ensures.ok }) c.in-Ok.ensures.ok told)
    c.told.ensures.ok

pub returns-in-Ok-clause-malformed : goal.returns-in-Ok-clause-malformed
returns-in-Ok-clause-malformed c = λ is. absurd (only_memory c.told.result c.told.ensures.err is)

pub returns-in-Err-Refused-clause-ok : goal.returns-in-Err-Refused-clause-ok
returns-in-Err-Refused-clause-ok c = search rules

pub returns-in-Err-Refused-clause-malformed : goal.returns-in-Err-Refused-clause-malformed
returns-in-Err-Refused-clause-malformed c = search rules

pub returns-clause-malformed : goal.returns-clause-malformed
returns-clause-malformed c = search rules
