use Rattle.std.proofs.Common.{Err, ap, sym, []}
use Rattle.elasticlunr.proofs.Choosing.{fields_so_far, refused_at}
use Rattle.elasticlunr.proofs.builder.IndexBuilder.add_fields.Goals as goal

pub returns-in_err-builder-clause-duplicate : goal.returns-in_err-builder-clause-duplicate
returns-in_err-builder-clause-duplicate g c = λ refused.
    refused_at _ _ c.args.fields.now c.loop-field.field-index (record { ref_ptr = (0, 0); now = [] })
    c.loop-field.invariant c.loop-field-test.true
    (c.in_err-builder.ensures.duplicate.0 (ap Err (sym (rw refused at c.from_residual.ensures.1))))

pub loop-field-preserved : goal.loop-field-preserved
loop-field-preserved g c =
    fields_so_far _ _ _ c.args.fields.now c.loop-field.field-index (record { ref_ptr = (0, 0); now = [] })
    c.loop-field.invariant c.loop-field-test.true c.in_ok-builder.ensures.chosen
