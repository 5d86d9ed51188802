use Rattle.std.proofs.Common.{◌≡◌, [], Err, true, false, refl, ap, ◌∙◌}
use Rattle.elasticlunr.specs.Builder.{chosen}
use Rattle.elasticlunr.specs.Fields.{all_differ}
use Rattle.elasticlunr.specs.Index.{choices_of}
use Rattle.elasticlunr_documents.specs.LinesTold.{index_error_of}
use Rattle.elasticlunr_documents.specs.Objects.{job_of}
use Rattle.elasticlunr_job_format.specs.ObjectsTold.{options_told, texts_told}
use Rattle.elasticlunr_job.proofs.Building.{begun_for, given_told, has_choices, told_fields}
use Rattle.elasticlunr_documents.proofs.FilledLines.{documents_fit}
use Rattle.elasticlunr_documents.proofs.LineStops.{exit_for, fails_lines, index_no_device, twice_exit}
use Rattle.elasticlunr_job.proofs.Stops.{err_more, no_language, ok_more}
use Rattle.std.proofs.Common.{rules}
use Rattle.elasticlunr_documents.proofs.lines.lines_made.Goals as goal

pub returns-in_default-clause-err : goal.returns-in_default-clause-err
returns-in_default-clause-err g c = no_language c.args.options.now.language.now (c.in_default.ensures.none refl)

pub returns-in_err-add_fields-clause-err : goal.returns-in_err-add_fields-clause-err
returns-in_err-add_fields-clause-err g c =
    let job = job_of (options_told c.args.options.now) [] in
    let pipeline = c.in_ok-pipeline.pipeline in
    let begun = begun_for job c.in-Some.language pipeline (chosen c.in_ok-with_language.field-0)
    (chosen c.with_pipeline.result) (chosen c.save_docs.result) (chosen c.in_ok-set_ref.field-0)
    c.in_ok-with_language.ensures.chosen c.with_pipeline.ensures c.save_docs.ensures c.in_ok-set_ref.ensures.chosen in
    twice_exit c.from_residual-in_err-add_fields.result (options_told c.args.options.now)
    (g.R.Read.remaining c.args.reader.now) c.args.last.now c.in_err-add_fields.field-0.0
    c.from_residual-in_err-add_fields.ensures.1 (c.in-Some.language, c.in-Some.ensures.found)
    (λ is. told_fields (λ names. all_differ names ≡ false) job c.in-Some.language pipeline (chosen c.in_ok-set_ref.field-0)
    c.deref.result.now begun (ap texts_told c.deref.ensures.value)
    (c.add_fields.ensures.duplicate (c.in_err-add_fields.was ∙ ap Err is)))
    c.in_err-add_fields.ensures.errors

pub returns-clause-err : goal.returns-clause-err
returns-clause-err g c =
    let options = options_told c.args.options.now in
    let job = job_of options [] in
    let language = c.in-Some.language in
    let pipeline = c.in_ok-pipeline.pipeline in
    let begun = begun_for job language pipeline (chosen c.in_ok-with_language.field-0) (chosen c.with_pipeline.result)
    (chosen c.save_docs.result) (chosen c.in_ok-set_ref.field-0) c.in_ok-with_language.ensures.chosen
    c.with_pipeline.ensures c.save_docs.ensures c.in_ok-set_ref.ensures.chosen in
    let fields = ap texts_told c.deref.ensures.value in
    err_more c.fill_and_make.result _ _
    (λ e stops. fails_lines options (g.R.Read.remaining c.args.reader.now) c.fill_and_make.new.last e (
      (language, c.in-Some.ensures.found),
      told_fields (λ names. all_differ names ≡ true) job language pipeline
          (chosen c.in_ok-set_ref.field-0) c.deref.result.now begun fields c.in_ok-add_fields.ensures.differ,
    )
    stops)
    c.fill_and_make.ensures.err

pub returns-clause-ok : goal.returns-clause-ok
returns-clause-ok g c =
    let options = options_told c.args.options.now in
    let job = job_of options [] in
    let language = c.in-Some.language in
    let pipeline = c.in_ok-pipeline.pipeline in
    let begun = begun_for job language pipeline (chosen c.in_ok-with_language.field-0) (chosen c.with_pipeline.result)
    (chosen c.save_docs.result) (chosen c.in_ok-set_ref.field-0) c.in_ok-with_language.ensures.chosen
    c.with_pipeline.ensures c.save_docs.ensures c.in_ok-set_ref.ensures.chosen in
    let fields = ap texts_told c.deref.ensures.value in
    let given = given_told job language pipeline (chosen c.in_ok-set_ref.field-0) (chosen c.in_ok-add_fields.field-0)
    c.deref.result.now begun fields c.in_ok-add_fields.ensures.chosen in
    ok_more c.fill_and_make.result _ _
    (λ made fills.
    let all = fills language (c.an_index_is_built_for_a_job.ensures pipeline options.rules job language
    c.stems_by.result c.stems_by.ensures (has_choices job language pipeline (chosen c.in_ok-add_fields.field-0)
    (choices_of c.in_ok-index.index) given c.in_ok-index.ensures.given c.in_ok-index.ensures.own)
    c.in_ok-pipeline.ensures.names c.in_ok-pipeline.ensures.leaves c.in_ok-index.ensures.empty) in
    let filled = all.2 in (
      all.0,
      all.1,
      (
        filled.items,
        filled.are_values,
        (
          filled.documents,
          filled.are_documents,
          (
            language,
            record {
              named = c.in-Some.ensures.found;
              distinct = told_fields (λ names. all_differ names ≡ true) job language pipeline (chosen c.in_ok-set_ref.field-0)
                  c.deref.result.now begun fields c.in_ok-add_fields.ensures.differ;
              fits = documents_fit options filled.items filled.documents filled.are_documents;
            },
            filled.made,
          ),
        ),
      ),
    ))
    c.fill_and_make.ensures.ok

pub returns-in_err-with_language-clause-device : goal.returns-in_err-with_language-clause-device
returns-in_err-with_language-clause-device g c = exit_for c.from_residual-in_err-with_language.result _
    (index_error_of c.in_err-with_language.field-0.0) c.from_residual-in_err-with_language.ensures.1
    (index_no_device _ c.in_err-with_language.field-0.0)

pub returns-in_err-set_ref-clause-device : goal.returns-in_err-set_ref-clause-device
returns-in_err-set_ref-clause-device g c = exit_for c.from_residual-in_err-set_ref.result _
    (index_error_of c.in_err-set_ref.field-0.0) c.from_residual-in_err-set_ref.ensures.1
    (index_no_device _ c.in_err-set_ref.field-0.0)

pub returns-in_err-add_fields-clause-device : goal.returns-in_err-add_fields-clause-device
returns-in_err-add_fields-clause-device g c = exit_for c.from_residual-in_err-add_fields.result _
    (index_error_of c.in_err-add_fields.field-0.0) c.from_residual-in_err-add_fields.ensures.1
    (index_no_device _ c.in_err-add_fields.field-0.0)

pub returns-in_err-index-clause-device : goal.returns-in_err-index-clause-device
returns-in_err-index-clause-device g c = exit_for c.from_residual-in_err-index.result _
    (index_error_of c.in_err-index.field-0.0) c.from_residual-in_err-index.ensures.1
    (index_no_device _ c.in_err-index.field-0.0)

pub returns-clause-seen : goal.returns-clause-seen
returns-clause-seen g c = search rules

pub returns-clause-device : goal.returns-clause-device
returns-clause-device g c = search rules
