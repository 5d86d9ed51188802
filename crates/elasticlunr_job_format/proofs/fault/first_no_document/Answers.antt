use Rattle.std.proofs.Common.{[], refl}
use Rattle.elasticlunr_job_format.proofs.JobFaults.{all_documents, more_documents, no_document_at}
use Rattle.elasticlunr_job_format.proofs.fault.first_no_document.Goals as goal

pub loop-i-init : goal.loop-i-init
loop-i-init c = ([], refl)

pub loop-i-preserved : goal.loop-i-preserved
loop-i-preserved c = more_documents c.args.items.now c.loop-i.i c.index-items-i.result c.loop-i-test.true
    c.index-items-i.is c.loop-i.invariant c.in_default.ensures.none

pub returns-in-Some-clause-some : goal.returns-in-Some-clause-some
returns-in-Some-clause-some c = no_document_at c.args.items.now c.loop-i.i c.index-items-i.result c.in-Some.fault
    c.loop-i-test.true c.index-items-i.is c.loop-i.invariant c.in-Some.ensures.some

pub returns-clause-none : goal.returns-clause-none
returns-clause-none c = all_documents c.args.items.now c.loop-i.i c.loop-i-test.false c.loop-i.invariant
