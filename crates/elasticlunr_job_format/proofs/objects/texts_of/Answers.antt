use Rattle.std.proofs.Common.{subst}
use Rattle.serde_json.specs.View.{view}
use Rattle.elasticlunr_job_format.specs.Objects.{IsFirstWithoutText}
use Rattle.elasticlunr_job_format.specs.ObjectsTold.{options_told, texts_told}
use Rattle.elasticlunr_job_format.proofs.FieldTexts.{first_without, next_text}
use Rattle.elasticlunr_job_format.proofs.objects.texts_of.Goals as goal

pub returns-in-Err-clause-err : goal.returns-in-Err-clause-err
returns-in-Err-clause-err c = λ reference has.
    let options = options_told c.args.options.now in
    subst (λ fs. IsFirstWithoutText options (view c.args.value.now) (texts_told fs) c.loop-i.i c.in-Err.kind)
    c.deref-field-items.ensures.value
    (first_without options _ c.deref-field-items.result.now c.loop-i.i _ _ c.loop-i-test.true c.loop-i.invariant _
    reference has c.in-Err.ensures.err)

pub loop-i-preserved : goal.loop-i-preserved
loop-i-preserved c = next_text (options_told c.args.options.now) _ c.deref-field-items.result.now c.loop-i.i _ c.loop-i.found.items
    c.loop-i-test.true c.loop-i.invariant _ c.in-Ok.text c.in-Ok.ensures.ok c.in_ok-push-in-Ok.ensures.items
