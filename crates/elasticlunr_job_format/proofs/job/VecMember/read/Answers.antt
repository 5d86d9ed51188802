use Rattle.elasticlunr_job_format.proofs.JobValues.{some_other}
use Rattle.elasticlunr_job_format.proofs.Exits.{at_exit}
use Rattle.elasticlunr_job_format.proofs.job.VecMember.read.Goals as goal

pub returns-in_err-read-clause-err : goal.returns-in_err-read-clause-err
returns-in_err-read-clause-err g c = at_exit c.from_residual-in_err-read.result _ _ _ c.in_err-read.field-0.0
    c.from_residual-in_err-read.ensures.1
    (λ other. some_other g.T.Member.IsOther _ c.in-Some.items.now.items c.deref-item-items.result.now
    c.loop-item.item-index c.item-item.result c.in-Some.ensures c.deref-item-items.ensures.value
    c.loop-item-test.true c.item-item.is other) c.in_err-read.ensures.err
