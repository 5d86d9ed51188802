use Rattle.std.proofs.Common.{ap, sym, ◌∙◌}
use Rattle.serde_json.specs.View.{view}
use Rattle.elasticlunr_job_format.specs.Reading.{reading}
use Rattle.elasticlunr_job.specs.Answer.{IsRefused}
use Rattle.elasticlunr_job_format.specs.declared.outcome.Refusal.TheVariants.{NotAJob}
use Rattle.elasticlunr_job.proofs.Stops.{refusal_exit}
use Rattle.elasticlunr_job.proofs.answer.index_line.Goals as goal

pub returns-in_err-job-clause-err : goal.returns-in_err-job-clause-err
returns-in_err-job-clause-err c = refusal_exit c.from_residual-in_err-job.result (IsRefused c.args.bytes.items) NotAJob
    _ c.in_err-job.field-0.0 c.from_residual-in_err-job.ensures.1 c.in_err-job.ensures.err
    (λ no_job. (view c.in_ok-value.value, ap reading (sym c.deref.ensures.value) ∙ c.in_ok-value.ensures.ok, no_job))
