use Rattle.std.proofs.Common.{◌<◌, ◌≤◌, ◌+◌, length, map, take, subst, sym, arith}
use Rattle.elasticlunr.specs.Fields.{borrowed}
use Rattle.elasticlunr_job_format.specs.JobTold.{document_told}
use Rattle.elasticlunr_input.specs.FirstFaults.{AllFit, IsFirstTooLong}
use Rattle.elasticlunr_input.proofs.FirstFaults.{fit_all, fit_more, too_long_at}
use Rattle.elasticlunr_input.proofs.jobs.first_too_long.Goals as goal

pub returns-then-len-most-clause-some : goal.returns-then-len-most-clause-some
returns-then-len-most-clause-some c =
    let over : length c.args.job.now.fields.items < length c.doc-item.result.values.items =
    omega (
      arith,
      c.if-len-most.true,
      c.len.ensures,
      c.len-most.ensures,
      c.args.job.now.fields.ok.0,
      c.doc-item.result.values.ok.0,
    ) in
    subst (λ docs. IsFirstTooLong (borrowed c.args.job.now.fields.items) (map document_told docs) c.loop-number.number)
    c.deref-doc-items.ensures.value
    (too_long_at c.args.job.now.fields.items c.deref-doc-items.result.now c.loop-number.number c.doc-item.result
    c.loop-number-test.true c.doc-item.is
    (subst (λ docs. AllFit (borrowed c.args.job.now.fields.items) (map document_told (take c.loop-number.number docs)))
    (sym c.deref-doc-items.ensures.value) c.loop-number.invariant) over)

pub loop-number-preserved : goal.loop-number-preserved
loop-number-preserved c =
    let within : length c.doc-item.result.values.items ≤ length c.args.job.now.fields.items =
    omega (
      arith,
      c.if-len-most.false,
      c.len.ensures,
      c.len-most.ensures,
      c.args.job.now.fields.ok.0,
      c.doc-item.result.values.ok.0,
    ) in
    subst (λ docs. AllFit (borrowed c.args.job.now.fields.items)
    (map document_told (take (c.loop-number.number + 1) docs))) c.deref-doc-items.ensures.value
    (fit_more c.args.job.now.fields.items c.deref-doc-items.result.now c.loop-number.number c.doc-item.result
    c.loop-number-test.true c.doc-item.is
    (subst (λ docs. AllFit (borrowed c.args.job.now.fields.items) (map document_told (take c.loop-number.number docs)))
    (sym c.deref-doc-items.ensures.value) c.loop-number.invariant) within)

pub returns-clause-none : goal.returns-clause-none
returns-clause-none c =
    subst (λ docs. AllFit (borrowed c.args.job.now.fields.items) (map document_told docs))
    c.deref-doc-items.ensures.value
    (fit_all c.args.job.now.fields.items c.deref-doc-items.result.now c.loop-number.number c.loop-number-test.false
    (subst (λ docs. AllFit (borrowed c.args.job.now.fields.items) (map document_told (take c.loop-number.number docs)))
    (sym c.deref-doc-items.ensures.value) c.loop-number.invariant))
