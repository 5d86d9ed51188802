use Rattle.serde_json.specs.View.{view}
use Rattle.elasticlunr_job_format.specs.Objects.{IsDocumentOf}
use Rattle.elasticlunr_job_format.specs.ObjectsTold.{object_told, options_told}
use Rattle.elasticlunr_documents.proofs.Several.{fails_at, next_pair}
use Rattle.std.proofs.Common.{arith, rules}
use Rattle.std.proofs.lemmas.Grind.{common_steps}
use Rattle.elasticlunr_documents.proofs.objects.objects_of.Goals as goal

pub returns-in-Err-clause-err : goal.returns-in-Err-clause-err
returns-in-Err-clause-err c = fails_at (options_told c.args.options.now) c.args.items.now c.loop-i.i
    c.index-items-i.result _ _ _ c.stop_at.ensures c.loop-i-test.true c.index-items-i.is c.loop-i.invariant
    c.in-Err.ensures.err

pub loop-i-preserved : goal.loop-i-preserved
loop-i-preserved c = next_pair (IsDocumentOf (options_told c.args.options.now)) view object_told c.args.items.now
    c.loop-i.objects.items _ c.loop-i.i c.index-items-i.result c.in-Ok.object c.loop-i-test.true c.index-items-i.is
    c.loop-i.invariant c.in-Ok.ensures.ok c.in_ok-push-in-Ok.ensures.items

pub loop-i-init : goal.loop-i-init
loop-i-init c = search rules

pub returns-clause-ok : goal.returns-clause-ok
returns-clause-ok c = grind (arith, common_steps)
