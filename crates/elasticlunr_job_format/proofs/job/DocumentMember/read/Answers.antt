use Rattle.std.proofs.Common.{◌≡◌, ◌==◌, ◌∷◌, false, subst, sym, ◌∙◌}
use Rattle.serde_json.specs.Data.{string}
use Rattle.elasticlunr_job_format.proofs.JobValues.{not_listed, document_from}
use Rattle.elasticlunr_job_format.proofs.Exits.{at_exit}
use Rattle.elasticlunr_job_format.proofs.job.DocumentMember.read.Goals as goal

pub returns-in_err-texts-clause-err : goal.returns-in_err-texts-clause-err
returns-in_err-texts-clause-err c = at_exit c.from_residual.result _ _ _ c.in_err-texts.field-0.0
    c.from_residual.ensures.1
    (λ other doc. not_listed string _ (doc.reference ∷ doc.values) other) c.in_err-texts.ensures.err

pub returns-clause-ok : goal.returns-clause-ok
returns-clause-ok c = document_from _ c.in_ok-texts.texts.items c.remove-reference.new.self.items
    c.remove-reference.result c.in_ok-texts.ensures.ok
    (subst (λ n. (n == 0) ≡ false) c.in_ok-texts.texts.ok.0 (sym c.is_empty.ensures ∙ c.if-is_empty.false))
    c.remove-reference.ensures.value c.remove-reference.ensures.items
