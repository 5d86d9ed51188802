use Rattle.std.proofs.Common.{string_bytes, rules}
use Rattle.serde_json.specs.View.{view}
use Rattle.elasticlunr_job_format.specs.Objects.{HasReference}
use Rattle.elasticlunr_job_format.specs.ObjectsTold.{options_told}
use Rattle.elasticlunr_job_format.proofs.FieldTexts.{field_exit}
use Rattle.elasticlunr_job_format.proofs.objects.object_of.Goals as goal

pub returns-in_err-texts-clause-err : goal.returns-in_err-texts-clause-err
returns-in_err-texts-clause-err c =
    let options = options_told c.args.options.now in
    let d = view c.args.value.now in
    let reference = string_bytes c.in-Some-2.reference in
    let has : HasReference options d reference = search rules in
    field_exit options d c.from_residual-in_err-texts.result c.in_err-texts.field-0.0 reference
    c.from_residual-in_err-texts.ensures.1 has c.in_err-texts.ensures.err
