use Rattle.std.proofs.Common.{subst, ◌∙◌}
use Rattle.serde_json.specs.Data.{Data}
use Rattle.serde_json.specs.View.{view}
use Rattle.elasticlunr_job.specs.Answer.{FailsAt, IsMadeBy}
use Rattle.elasticlunr_job_format.specs.Job.{Job, IsJob}
use Rattle.elasticlunr_job_format.specs.JobTold.{job_told}
use Rattle.elasticlunr_job_format.specs.JobError.{StopsWithReason}
use Rattle.elasticlunr_job_format.specs.declared.outcome.Refusal.TheVariants as refusal
use Rattle.elasticlunr_job_format.specs.declared.outcome.JobError.{JobError}
use Rattle.elasticlunr_job_format.specs.declared.outcome.JobError.TheVariants.{Memory, Refused}
use Rattle.elasticlunr_input.specs.NotedAll.{AreNotedUnder}
use Rattle.elasticlunr_input.specs.Settled.{Settings, IsRefusedWith, own_rules, settings_told, settled}
use Rattle.elasticlunr_input.proofs.HeadLemmas.{exit_at}
use Rattle.elasticlunr_input.proofs.jobs.job_made_of.Goals as goal

-- what stops the job with the settings stops the value with them
stops_with : (settings : Settings) (d : Data) (job : Job) → IsJob d job → (stop : JobError)
    → StopsWithReason (FailsAt (settled settings job)) stop → StopsWithReason (IsRefusedWith settings d) stop
stops_with settings d job is Memory fails = tt
stops_with settings d job is (Refused refusal.NotJson) fails = fails
stops_with settings d job is (Refused refusal.NotAJob) fails = absurd fails
stops_with settings d job is (Refused refusal.UnknownLanguage) fails = (job, is, fails)
stops_with settings d job is (Refused refusal.DuplicateField) fails = (job, is, fails)
stops_with settings d job is (Refused refusal.TooManyValues) fails = (job, is, fails)

pub returns-clause-ok : goal.returns-clause-ok
returns-clause-ok g c = (
  job_told c.in_ok-own.own,
  c.in_ok-own.ensures.ok,
  subst (λ job. IsMadeBy (own_rules c.args.settings.now.rules) job (g.M.Make.makes c.args.maker.now c.in_ok-made.made))
      (c.in_ok-job.ensures (c.as_str.ensures.value ∙ c.in_ok-reference.ensures))
      (subst (λ rules. IsMadeBy rules (job_told c.in_ok-job.job) (g.M.Make.makes c.args.maker.now c.in_ok-made.made))
      c.in_ok-rules.ensures c.in_ok-made.ensures.ok),
)

pub returns-clause-noted : goal.returns-clause-noted
returns-clause-noted g c = (
  job_told c.in_ok-own.own,
  c.in_ok-own.ensures.ok,
  subst (λ job. AreNotedUnder (own_rules c.args.settings.now.rules) job c.args.notes.now c.note_documents.new.notes)
      (c.in_ok-job.ensures (c.as_str.ensures.value ∙ c.in_ok-reference.ensures)) c.in_ok-note_documents.ensures,
)

pub returns-in_err-made-clause-err : goal.returns-in_err-made-clause-err
returns-in_err-made-clause-err g c =
    exit_at c.from_residual-in_err-made.result _ c.in_err-made.field-0.0 c.from_residual-in_err-made.ensures.1
    (stops_with (settings_told c.args.settings.now) (view c.args.value.now) (job_told c.in_ok-own.own) c.in_ok-own.ensures.ok
    c.in_err-made.field-0.0
    (subst (λ job. StopsWithReason (FailsAt job) c.in_err-made.field-0.0)
    (c.in_ok-job.ensures (c.as_str.ensures.value ∙ c.in_ok-reference.ensures)) c.in_err-made.ensures.err))
