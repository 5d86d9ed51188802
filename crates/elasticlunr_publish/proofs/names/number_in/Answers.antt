use Rattle.elasticlunr_publish.proofs.Numbered.{no_end, no_point, none_map, to_none}
use Rattle.elasticlunr_publish.proofs.names.number_in.Goals as goal

pub returns-in_err-ended-clause-none : goal.returns-in_err-ended-clause-none
returns-in_err-ended-clause-none c = to_none c.from_residual-in_err-ended.result
    (no_point c.args.base.now c.args.name.now c.in_ok-rest.rest.now c.as_slice.result.now c.as_slice.ensures
    c.in_ok-rest.ensures.some c.in_err-ended.ensures.none)

pub returns-clause-none : goal.returns-clause-none
returns-clause-none c = none_map c.before-2.result
    (no_end c.args.base.now c.args.name.now c.in_ok-rest.rest.now c.as_slice.result.now c.in_ok-ended.ended.now
    c.as_slice-2.result.now c.as_slice.ensures c.as_slice-2.ensures c.in_ok-rest.ensures.some c.in_ok-ended.ensures.some)
    c.before-2.ensures.none
