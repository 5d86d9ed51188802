use Rattle.std.proofs.Common.{map, ap, ◌∙◌}
use Rattle.std.proofs.lemmas.List.{take_all}
use Rattle.elasticlunr_documents.specs.Objects as spec
use Rattle.elasticlunr_job_format.specs.ObjectsTold.{object_told, options_told, texts_told}
use Rattle.std.proofs.Common.{arith, rules}
use Rattle.std.proofs.lemmas.Grind.{common_steps}
use Rattle.elasticlunr_documents.proofs.objects.job_of.Goals as goal

pub returns : goal.returns
returns c =
    let objects = c.args.objects.now in
    let fields = ap texts_told (c.in_ok-from_slice.ensures.items ∙ c.deref.ensures.value) in
    let docs = c.loop-object.invariant ∙ ap (map object_told)
    (take_all c.loop-object.object-index objects c.loop-object-test.false) in
    let remove = ap texts_told c.new.ensures.items in
    λ i. record (spec.job_of (options_told c.args.options.now) (map object_told objects))
    { fields = fields i; docs = docs i; remove = remove i }

pub loop-object-init : goal.loop-object-init
loop-object-init c = search rules

pub loop-object-preserved : goal.loop-object-preserved
loop-object-preserved c = grind (arith, common_steps)
