use Rattle.std.proofs.Common.{◌≡◌, Any, Err, true, false, ap, subst, ◌∙◌}
use Rattle.elasticlunr.specs.Builder.{chosen}
use Rattle.elasticlunr.specs.Fields.{all_differ}
use Rattle.elasticlunr.specs.Index.{choices_of}
use Rattle.elasticlunr_flat.specs.Told.{input_told}
use Rattle.elasticlunr_job_format.specs.declared.outcome.Refusal.TheVariants.{TooManyValues, UnknownLanguage}
use Rattle.elasticlunr_job.proofs.Alike.{holding_works}
use Rattle.elasticlunr_job.proofs.Stops.{StopsWithReason-by, err_more, ok_both, refusal_exit}
use Rattle.elasticlunr_c_calls.specs.Indexes.{FailsAt, Fits, HasTooMany}
use Rattle.elasticlunr_c_calls.proofs.Building.{begun_for, built_fields, built_for, fields_exit, given_fields, given_for}
use Rattle.elasticlunr_c_calls.proofs.Building.{names_any}
use Rattle.elasticlunr_c_calls.proofs.documents.made_of.Goals as goal

pub returns-in_err-language-clause-err : goal.returns-in_err-language-clause-err
returns-in_err-language-clause-err g c = refusal_exit c.from_residual.result (FailsAt (input_told c.args.input.now))
    UnknownLanguage _ c.in_err-language.field-0.0 c.from_residual.ensures.1 c.in_err-language.ensures.err (λ none. none)

pub returns-in_err-add_fields-clause-err : goal.returns-in_err-add_fields-clause-err
returns-in_err-add_fields-clause-err g c =
    let input = input_told c.args.input.now in
    let language = c.in_ok-language.language in
    let begun = begun_for input language (chosen c.in_ok-with_language.field-0) (chosen c.save_docs.result)
    (chosen c.in_ok-set_ref.field-0) c.in_ok-with_language.ensures.chosen c.save_docs.ensures
    c.in_ok-set_ref.ensures.chosen in
    fields_exit c.from_residual-in_err-add_fields.result input c.in_err-add_fields.field-0.0
    c.from_residual-in_err-add_fields.ensures.1 (names_any input.language language c.in_ok-language.ensures.named)
    (λ is. given_fields (λ names. all_differ names ≡ false) c.args.input.now language
    (chosen c.in_ok-set_ref.field-0) c.deref.result.now begun c.deref.ensures.value
    (c.add_fields.ensures.duplicate (c.in_err-add_fields.was ∙ ap Err is)))
    c.in_err-add_fields.ensures.errors

pub returns-clause-err : goal.returns-clause-err
returns-clause-err g c =
    let input = input_told c.args.input.now in
    let language = c.in_ok-language.language in
    let begun = begun_for input language (chosen c.in_ok-with_language.field-0) (chosen c.save_docs.result)
    (chosen c.in_ok-set_ref.field-0) c.in_ok-with_language.ensures.chosen c.save_docs.ensures
    c.in_ok-set_ref.ensures.chosen in
    let given = given_for c.args.input.now language (chosen c.in_ok-set_ref.field-0)
    (chosen c.in_ok-add_fields.field-0) c.deref.result.now begun c.deref.ensures.value
    c.in_ok-add_fields.ensures.chosen in
    err_more c.fill_and_make.result _ _
    (λ stop stops. StopsWithReason-by (FailsAt input) TooManyValues _ stop
    (stops (holding_works c.in_ok-index.index _ c.in_ok-index.ensures.empty))
    (λ many. (
      names_any input.language language c.in_ok-language.ensures.named,
      given_fields (λ names. all_differ names ≡ true) c.args.input.now language (chosen c.in_ok-set_ref.field-0)
          c.deref.result.now begun c.deref.ensures.value c.in_ok-add_fields.ensures.differ,
      subst (λ names. Any (HasTooMany names) input.documents) (built_fields input language
          (chosen c.in_ok-add_fields.field-0)
          (choices_of c.in_ok-index.index) given c.in_ok-index.ensures.given) many,
    )))
    c.fill_and_make.ensures.err

pub returns-clause-ok : goal.returns-clause-ok
returns-clause-ok g c =
    let input = input_told c.args.input.now in
    let language = c.in_ok-language.language in
    let begun = begun_for input language (chosen c.in_ok-with_language.field-0) (chosen c.save_docs.result)
    (chosen c.in_ok-set_ref.field-0) c.in_ok-with_language.ensures.chosen c.save_docs.ensures
    c.in_ok-set_ref.ensures.chosen in
    let given = given_for c.args.input.now language (chosen c.in_ok-set_ref.field-0)
    (chosen c.in_ok-add_fields.field-0) c.deref.result.now begun c.deref.ensures.value
    c.in_ok-add_fields.ensures.chosen in
    ok_both c.fill_and_make.result _ _ _
    (λ made fits holds. (
      language,
      record {
        named = c.in_ok-language.ensures.named;
        distinct = given_fields (λ names. all_differ names ≡ true) c.args.input.now language
            (chosen c.in_ok-set_ref.field-0) c.deref.result.now begun c.deref.ensures.value
            c.in_ok-add_fields.ensures.differ;
        fits = subst (λ names. Fits names input.documents) (built_fields input language
            (chosen c.in_ok-add_fields.field-0)
            (choices_of c.in_ok-index.index) given c.in_ok-index.ensures.given) fits;
      },
      holds language (built_for input language (chosen c.in_ok-add_fields.field-0) (choices_of c.in_ok-index.index) _ _
          _ _ _ c.values_with_tokens_make_what_a_language_makes.ensures given c.in_ok-index.ensures.empty
          c.in_ok-index.ensures.given c.in_ok-index.ensures.plan c.in_ok-index.ensures.leaves
          c.in_ok-index.ensures.reads),
    ))
    c.fill_and_make.ensures.fits c.fill_and_make.ensures.ok
