use Rattle.std.proofs.Common.{[], refl, sym, ◌∙◌}
use Rattle.elasticlunr_job_format.proofs.JobFaults.{all_texts, more_texts, no_text_at}
use Rattle.elasticlunr_job_format.proofs.fault.first_no_text.Goals as goal

pub loop-i-init : goal.loop-i-init
loop-i-init c = ([], refl)

pub loop-i-preserved : goal.loop-i-preserved
loop-i-preserved c = more_texts c.args.items.now c.loop-i.i c.index-items-i.result c.loop-i-test.true c.index-items-i.is
    c.loop-i.invariant (sym c.is_string.ensures ∙ c.if-not-is_string.false)

pub returns-then-not-is_string-clause-some : goal.returns-then-not-is_string-clause-some
returns-then-not-is_string-clause-some c = no_text_at c.args.items.now c.loop-i.i c.index-items-i.result _
    c.loop-i-test.true c.index-items-i.is c.loop-i.invariant (sym c.is_string.ensures ∙ c.if-not-is_string.true)
    c.kind_of.ensures

pub returns-clause-none : goal.returns-clause-none
returns-clause-none c = all_texts c.args.items.now c.loop-i.i c.loop-i-test.false c.loop-i.invariant
