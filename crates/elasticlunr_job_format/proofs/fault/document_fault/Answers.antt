use Rattle.std.proofs.Common.{◌≡◌, ◌==◌, false, map, subst, sym, ◌∙◌}
use Rattle.serde_json.specs.View.{view}
use Rattle.elasticlunr_job_format.specs.FaultSteps.{AreTexts}
use Rattle.elasticlunr_job_format.proofs.JobFaults.{a_document, if_none}
use Rattle.elasticlunr_job_format.proofs.fault.document_fault.Goals as goal

pub returns-in_err-number-clause-none : goal.returns-in_err-number-clause-none
returns-in_err-number-clause-none c = if_none c.from_residual.result
    (a_document _ c.in-Some.items.now.items c.in-Some.ensures
    (subst (λ n. (n == 0) ≡ false) c.in-Some.items.now.ok.0 (sym c.is_empty.ensures ∙ c.if-is_empty.false))
    (subst (λ vs. AreTexts (map view vs)) c.deref.ensures.value c.in_err-number.ensures.none))
