-- Why no index is printed.
use Rattle.std.specs.Prelude.{◌≡◌, ◌⊎◌, ⊤}
use Rattle.elasticlunr_job_format.specs.declared.outcome.Refusal.{Refusal}
use Rattle.elasticlunr_job_format.specs.declared.outcome.JobError.{JobError}
use Rattle.elasticlunr_job_format.specs.declared.outcome.JobError.TheVariants.{Memory, Refused}

-- it is out of memory, or this refusal, for this reason
abbrev pub StopsOnlyBy : Refusal → Type 0 → JobError → Type 0
StopsOnlyBy refusal reason stop = (stop ≡ Memory) ⊎ ((stop ≡ Refused refusal) × reason)

-- it is out of memory, or a refusal for which there is a reason
abbrev pub StopsWithReason : (Refusal → Type 0) → JobError → Type 0
StopsWithReason reason Memory = ⊤
StopsWithReason reason (Refused refusal) = reason refusal
