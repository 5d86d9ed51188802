use Rattle.std.proofs.Common.{sym, ◌∙◌}
use Rattle.elasticlunr_input.proofs.FirstFaults.{differ_all, differ_more, twice_at}
use Rattle.elasticlunr_input.proofs.jobs.second_of.Goals as goal

pub loop-number-preserved : goal.loop-number-preserved
loop-number-preserved c = differ_more c.args.fields.now c.loop-number.number _ c.loop-number-test.true
    c.loop-number.invariant (sym c.contains.ensures.value ∙ c.if-contains.false)

pub returns-then-contains-clause-some : goal.returns-then-contains-clause-some
returns-then-contains-clause-some c = twice_at c.args.fields.now c.loop-number.number _ c.loop-number-test.true
    c.loop-number.invariant (sym c.contains.ensures.value ∙ c.if-contains.true)

pub returns-clause-none : goal.returns-clause-none
returns-clause-none c = differ_all c.args.fields.now c.loop-number.number c.loop-number-test.false
    c.loop-number.invariant
