-- The text of a job's index in the job's language.
use Rattle.std.proofs.Common.{◌≡◌, List, inr, refl, sym, subst, ◌∙◌}
use Rattle.elasticlunr.specs.AnyLanguage.{AnyLanguage}
use Rattle.elasticlunr.specs.Known.{language_name}
use Rattle.elasticlunr.specs.Text.{Bytes}
use Rattle.elasticlunr_job.proofs.OneLanguage.{same_name}
use Rattle.elasticlunr_job.specs.Answer.{IsReadableIn, IsReadableOf}
use Rattle.elasticlunr_job_format.specs.Job.{Job}
use Rattle.elasticlunr_search.specs.declared.error.SearchError.{SearchError}
use Rattle.elasticlunr_uses.specs.Found.{FindsInJob, FindsInPrints}
use Rattle.elasticlunr_uses.specs.Stops.{FindsNothingIn, FindsNothingInPrints}
use Rattle.elasticlunr_uses.specs.declared.error.UseError.TheVariants.{Search}
use Rattle.elasticlunr_uses.specs.declared.query.Query.{Query}

module _ (job : Job) (language : AnyLanguage) (line text : Bytes) (named : language_name language ≡ job.language)
    (same : text ≡ line) (printed : IsReadableOf job line) where
  -- it is read in the language that the job names
  in_language : IsReadableIn job language text
  in_language = subst (IsReadableIn job language) (sym same)
      (subst (λ l. IsReadableIn job l line) (same_name printed.0 language (printed.1.named ∙ sym named)) printed.2)

  pub finds : (query : Query) (found : List Bytes) → FindsInPrints language text query found
      → FindsInJob job query found
  finds query found every = (language, named, every _ _ in_language)

  pub finds_nothing : (names : List Bytes) (e : SearchError) → FindsNothingInPrints language text names e
      → FindsNothingIn job names (Search e)
  finds_nothing names e every = inr (language, named, (e, refl, every _ _ refl refl in_language))
