use Rattle.elasticlunr_job.proofs.Stops.{ok_two}
use Rattle.elasticlunr_job.proofs.make.ReadableLineMake.make.Goals as goal

-- the line is what is printed, and is read as that
pub returns-clause-ok : goal.returns-clause-ok
returns-clause-ok g c = ok_two c.line_of.result _ _ _
    (λ text printed reads commands stands. (printed commands stands, reads commands stands))
    c.line_of.ensures.ok c.line_of.ensures.print
