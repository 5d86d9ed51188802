use Rattle.std.proofs.Common.{inl, refl}
use Rattle.elasticlunr_job.proofs.Stops.{no_language}
use Rattle.elasticlunr_job_format.specs.declared.outcome.JobError.TheVariants.{Refused}
use Rattle.elasticlunr_job_format.specs.declared.outcome.Refusal.TheVariants.{UnknownLanguage}
use Rattle.elasticlunr_uses.proofs.Jobs.{finds, finds_nothing}
use Rattle.elasticlunr_uses.proofs.Passing.{passed}
use Rattle.elasticlunr_uses.specs.declared.error.UseError.TheVariants.{Job, Search}
use Rattle.elasticlunr_uses.proofs.job.found_in_job.Goals as goal

pub returns-in_err-line-clause-errors : goal.returns-in_err-line-clause-errors
returns-in_err-line-clause-errors c = passed c.from_residual.result Job _ _ c.from_residual.ensures.1
    (inl (_, refl, c.in_err-line.ensures.err))

pub returns-in_default-clause-errors : goal.returns-in_default-clause-errors
returns-in_default-clause-errors c =
    let none = no_language c.args.job.now.language.now (c.in_default.ensures.none refl) in
    inl (Refused UnknownLanguage, refl, none)

pub returns-in_err-found-clause-errors : goal.returns-in_err-found-clause-errors
returns-in_err-found-clause-errors c = passed c.from_residual-in_err-found.result Search _ _
    c.from_residual-in_err-found.ensures.1 (finds_nothing _ c.in-Some.language _ _ c.in-Some.ensures.found
    c.as_str.ensures.value c.in_ok-line.ensures.readable _ _ c.in_err-found.ensures.errors)

pub returns-clause-found : goal.returns-clause-found
returns-clause-found c = finds _ c.in-Some.language _ _ c.in-Some.ensures.found c.as_str.ensures.value
    c.in_ok-line.ensures.readable c.args.query.now _ c.in_ok-found.ensures.found
