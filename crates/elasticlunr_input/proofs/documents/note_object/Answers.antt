use Rattle.std.proofs.Common.{OnOk, subst, sym}
use Rattle.serde_json.specs.View.{view}
use Rattle.elasticlunr_job_format.specs.Job.{Document}
use Rattle.elasticlunr_job_format.specs.Objects.{HasProblem, IsDocumentOf}
use Rattle.elasticlunr_job_format.specs.ObjectsTold.{IsMemoryOr, object_told, options_told}
use Rattle.elasticlunr_input.specs.NotedAll.{IsNoted, IsToldOf, Told}
use Rattle.elasticlunr_input.proofs.NotingAll.{noted_object}
use Rattle.elasticlunr_input.proofs.Tellings.{no_problem}
use Rattle.elasticlunr_input.proofs.documents.note_object.Goals as goal

pub returns-in-Ok : goal.returns-in-Ok
returns-in-Ok c =
    let options = options_told c.args.options.now in
    let object = c.in-Ok.object in
    let notes = c.args.notes.now in
    subst (λ v. OnOk c.object.result ((other : Document) → IsDocumentOf options (view v) other
    → (told : Told) × IsToldOf options (view v) told × IsNoted notes c.object.new.self told)) c.in-Ok.ensures.whole
    (noted_object c.object.result options (view object.value.now) notes c.object.new.self (object_told object)
    (subst (λ v. IsDocumentOf options (view v) (object_told object)) (sym c.in-Ok.ensures.whole) c.in-Ok.ensures.ok)
    c.object.ensures.taken c.object.ensures.warnings c.object.ensures.number c.object.ensures.known
    c.object.ensures.texts c.object.ensures.words c.object.ensures.limits)

pub returns-in-Err-ObjectFault : goal.returns-in-Err-ObjectFault
returns-in-Err-ObjectFault c = λ doc is. absurd (no_problem (options_told c.args.options.now) (view c.args.item.now) doc
    c.in-Err-ObjectFault.field-0-0 is (subst (IsMemoryOr (HasProblem (options_told c.args.options.now)
    (view c.args.item.now))) c.in-Err-ObjectFault.field-0-is c.in-Err-ObjectFault.ensures.err))
