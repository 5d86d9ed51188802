-- What the exit of a `?` returns.
use Rattle.std.proofs.Common.{◌≡◌, inl, inr, Result}
use Rattle.std.specs.Result.{IfErr, IsErrAnd}
use Rattle.std.proofs.lemmas.Result.{err_from_is_err_and}
use Rattle.elasticlunr_job_format.specs.declared.outcome.Refusal.{Refusal}
use Rattle.elasticlunr_job_format.specs.declared.outcome.JobError.{JobError}
use Rattle.elasticlunr_job_format.specs.JobError.{StopsOnlyBy}

pub StopsOnlyBy-weaker : (refusal : Refusal) (P Q : Type 0) (stop : JobError) → (P → Q) → StopsOnlyBy refusal P stop
    → StopsOnlyBy refusal Q stop
StopsOnlyBy-weaker refusal P Q stop f h = elim h [ inl e ↦ inl e | inr p ↦ inr (p.0, f p.1) ]

pub at_exit : {T : Type 0} (r : Result T JobError) (refusal : Refusal) (P Q : Type 0) (e : JobError)
    → IsErrAnd r (λ y. y ≡ e) → (P → Q) → StopsOnlyBy refusal P e → IfErr r (StopsOnlyBy refusal Q)
at_exit r refusal P Q e is f h =
    let p = err_from_is_err_and r is in
    rw (p.1, p.2) (StopsOnlyBy-weaker refusal P Q e f h)
