use Rattle.std.proofs.Common.{◌≡◌, Any, Err, true, false, refl, ap, subst, ◌∙◌}
use Rattle.elasticlunr.specs.Builder.{chosen}
use Rattle.elasticlunr.specs.Fields.{all_differ}
use Rattle.elasticlunr.specs.Index.{choices_of}
use Rattle.elasticlunr_job.specs.Answer.{FailsAt, HasTooMany}
use Rattle.elasticlunr_job.specs.Filled.{Fits}
use Rattle.elasticlunr_job_format.specs.JobTold.{job_told}
use Rattle.elasticlunr_job_format.specs.Rules.{given_rules}
use Rattle.elasticlunr_job_format.specs.declared.outcome.Refusal.TheVariants.{TooManyValues}
use Rattle.elasticlunr_job.proofs.Alike.{holding_works}
use Rattle.elasticlunr_job.proofs.Building.{begun_for, built_fields, given_fields, given_for, has_choices}
use Rattle.elasticlunr_job.proofs.Stops.{StopsWithReason-by, err_more, fields_exit, no_language, ok_both}
use Rattle.elasticlunr_job.proofs.answer.job_made_by.Goals as goal

pub returns-in_default-clause-err : goal.returns-in_default-clause-err
returns-in_default-clause-err g c = no_language c.args.job.now.language.now (c.in_default.ensures.none refl)

pub returns-in_err-add_fields-clause-err : goal.returns-in_err-add_fields-clause-err
returns-in_err-add_fields-clause-err g c =
    let pipeline = c.in_ok-pipeline.pipeline in
    let begun = begun_for (job_told c.args.job.now) c.in-Some.language pipeline (chosen c.in_ok-with_language.field-0)
    (chosen c.with_pipeline.result) (chosen c.save_docs.result) (chosen c.in_ok-set_ref.field-0)
    c.in_ok-with_language.ensures.chosen c.with_pipeline.ensures c.save_docs.ensures c.in_ok-set_ref.ensures.chosen in
    fields_exit c.from_residual-in_err-add_fields.result (job_told c.args.job.now) c.in_err-add_fields.field-0.0
    c.from_residual-in_err-add_fields.ensures.1 (c.in-Some.language, c.in-Some.ensures.found)
    (λ is. given_fields (λ names. all_differ names ≡ false) c.args.job.now c.in-Some.language pipeline
    (chosen c.in_ok-set_ref.field-0) c.deref.result.now begun c.deref.ensures.value
    (c.add_fields.ensures.duplicate (c.in_err-add_fields.was ∙ ap Err is)))
    c.in_err-add_fields.ensures.errors

pub returns-clause-err : goal.returns-clause-err
returns-clause-err g c =
    let job = job_told c.args.job.now in
    let language = c.in-Some.language in
    let pipeline = c.in_ok-pipeline.pipeline in
    let begun = begun_for job language pipeline (chosen c.in_ok-with_language.field-0) (chosen c.with_pipeline.result)
    (chosen c.save_docs.result) (chosen c.in_ok-set_ref.field-0) c.in_ok-with_language.ensures.chosen
    c.with_pipeline.ensures c.save_docs.ensures c.in_ok-set_ref.ensures.chosen in
    let given = given_for c.args.job.now language pipeline (chosen c.in_ok-set_ref.field-0)
    (chosen c.in_ok-add_fields.field-0) c.deref.result.now begun c.deref.ensures.value
    c.in_ok-add_fields.ensures.chosen in
    err_more c.fill_and_make.result _ _
    (λ stop stops. StopsWithReason-by (FailsAt job) TooManyValues _ stop
    (stops (holding_works c.in_ok-index.index _ c.in_ok-index.ensures.empty))
    (λ many. (
      (language, c.in-Some.ensures.found),
      given_fields (λ names. all_differ names ≡ true) c.args.job.now language pipeline
          (chosen c.in_ok-set_ref.field-0) c.deref.result.now begun c.deref.ensures.value c.in_ok-add_fields.ensures.differ,
      subst (λ names. Any (HasTooMany names) job.docs) (built_fields job language pipeline (chosen c.in_ok-add_fields.field-0)
          (choices_of c.in_ok-index.index) given c.in_ok-index.ensures.given) many,
    )))
    c.fill_and_make.ensures.err

pub returns-clause-ok : goal.returns-clause-ok
returns-clause-ok g c =
    let rules = given_rules c.args.rules.now in
    let job = job_told c.args.job.now in
    let language = c.in-Some.language in
    let pipeline = c.in_ok-pipeline.pipeline in
    let begun = begun_for job language pipeline (chosen c.in_ok-with_language.field-0) (chosen c.with_pipeline.result)
    (chosen c.save_docs.result) (chosen c.in_ok-set_ref.field-0) c.in_ok-with_language.ensures.chosen
    c.with_pipeline.ensures c.save_docs.ensures c.in_ok-set_ref.ensures.chosen in
    let given = given_for c.args.job.now language pipeline (chosen c.in_ok-set_ref.field-0)
    (chosen c.in_ok-add_fields.field-0) c.deref.result.now begun c.deref.ensures.value
    c.in_ok-add_fields.ensures.chosen in
    ok_both c.fill_and_make.result _ _ _
    (λ made fits holds. (
      language,
      record {
        named = c.in-Some.ensures.found;
        distinct = given_fields (λ names. all_differ names ≡ true) c.args.job.now language pipeline
            (chosen c.in_ok-set_ref.field-0) c.deref.result.now begun c.deref.ensures.value
            c.in_ok-add_fields.ensures.differ;
        fits = subst (λ names. Fits names job.docs) (built_fields job language pipeline (chosen c.in_ok-add_fields.field-0)
            (choices_of c.in_ok-index.index) given c.in_ok-index.ensures.given) fits;
      },
      holds language (c.an_index_is_built_for_a_job.ensures pipeline rules job language c.stems_by.result
          c.stems_by.ensures (has_choices job language pipeline (chosen c.in_ok-add_fields.field-0)
          (choices_of c.in_ok-index.index) given c.in_ok-index.ensures.given c.in_ok-index.ensures.own)
          c.in_ok-pipeline.ensures.names c.in_ok-pipeline.ensures.leaves c.in_ok-index.ensures.empty),
    ))
    c.fill_and_make.ensures.fits c.fill_and_make.ensures.ok
