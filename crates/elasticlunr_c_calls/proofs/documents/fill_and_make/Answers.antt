use Rattle.std.proofs.Common.{◌≡◌, ◌≤◌, [], Err, Any, map, length, inl, refl, ap, subst, ◌∙◌, arith}
use Rattle.elasticlunr.specs.Index.{fields_of}
use Rattle.elasticlunr_c_calls.specs.Carried.{field_told}
use Rattle.elasticlunr_c_calls.specs.Indexes.{Fits, HasTooMany}
use Rattle.elasticlunr_c_calls.specs.Languages.{name_in}
use Rattle.elasticlunr_flat.specs.Told.{document_told, input_told, value_told}
use Rattle.elasticlunr_job.proofs.Alike.{not_refused, plan_alike, still_works}
use Rattle.elasticlunr_job.proofs.Filling.{All_more, All_whole, Any_at}
use Rattle.elasticlunr_job.proofs.Stops.{err_more, later_too_many, ok_always, ok_more}
use Rattle.elasticlunr_c_calls.proofs.Filling.{all_taken, document_alike, fits_told, made_in, next_taken}
use Rattle.elasticlunr_c_calls.proofs.Filling.{too_many_told}
use Rattle.elasticlunr_c_calls.proofs.documents.fill_and_make.Goals as goal

pub loop-document-init : goal.loop-document-init
loop-document-init g c = record {
  taken = record
      { documents = []; each = tt; follows = record { stands = λ commands stands. stands } };
  settings = refl;
  fits =
      λ k d within. absurd (omega (arith, within));
  works = λ works. works;
}

pub loop-document-preserved : goal.loop-document-preserved
loop-document-preserved g c =
    let docs = c.deref-document-items.result.now in
    let i = c.loop-document.document-index in
    let doc = c.document-item.result in
    let values = c.deref-in-loop-document.result.now in
    let told : map field_told values ≡ (document_told doc).values = ap (map field_told) c.deref-in-loop-document.ensures.value
    ∙ c.in_ok-values.ensures ∙ ap (map value_told) c.deref.ensures.value in
    let made = c.in_ok-add_doc_with_tokens.ensures.added in
    let same = c.loop-document.invariant.settings in
    record {
      taken = next_taken _ _ _ _ docs i doc values c.loop-document-test.true c.document-item.is told
          c.loop-document.invariant.taken made.0 (document_alike _ (λ z. (goal.PipelineFn-dyn g z).leaves z.1)
          c.args.index c.loop-document.index same _ _ made.0 made.1) made.2;
      settings = c.add_doc_with_tokens.ensures.settings ∙ same;
      fits = All_more document_told (λ d. length d.values ≤ length (fields_of c.args.index)) docs i doc
          c.loop-document-test.true c.document-item.is c.loop-document.invariant.fits
          (fits_told c.args.index c.loop-document.index doc values same told
          (λ over. not_refused c.add_doc_with_tokens.result _ _ _ _ _ c.in_ok-add_doc_with_tokens.was
          c.add_doc_with_tokens.ensures.failed c.add_doc_with_tokens.ensures.too_many over));
      works = λ _. still_works c.add_doc_with_tokens.result _ _ _ _ c.in_ok-add_doc_with_tokens.was
          c.add_doc_with_tokens.ensures.fails;
    }

pub returns-in_err-add_doc_with_tokens-clause-err : goal.returns-in_err-add_doc_with_tokens-clause-err
returns-in_err-add_doc_with_tokens-clause-err g c =
    let docs = c.deref-document-items.result.now in
    let doc = c.document-item.result in
    let values = c.deref-in-loop-document.result.now in
    let told : map field_told values ≡ (document_told doc).values = ap (map field_told) c.deref-in-loop-document.ensures.value
    ∙ c.in_ok-values.ensures ∙ ap (map value_told) c.deref.ensures.value in
    let same = c.loop-document.invariant.settings in
    later_too_many c.from_residual-in_err-add_doc_with_tokens.result _ _ _ _
    c.from_residual-in_err-add_doc_with_tokens.ensures.1 c.loop-document.invariant.works
    (λ is. c.add_doc_with_tokens.ensures.failed.0 (c.in_err-add_doc_with_tokens.was ∙ ap Err is))
    (λ is. subst (λ ds. Any (HasTooMany (fields_of c.args.index)) (map document_told ds))
    c.deref-document-items.ensures.value
    (Any_at document_told (HasTooMany (fields_of c.args.index)) docs c.loop-document.document-index doc
    c.loop-document-test.true c.document-item.is
    (too_many_told c.args.index c.loop-document.index doc values same told
    (c.add_doc_with_tokens.ensures.too_many.0 (c.in_err-add_doc_with_tokens.was ∙ ap Err is)).1)))
    c.in_err-add_doc_with_tokens.ensures.errors

pub returns-clause-err : goal.returns-clause-err
returns-clause-err g c = err_more c.made_by.result _ _ (λ stop memory works. inl memory) c.made_by.ensures.err

pub returns-clause-fits : goal.returns-clause-fits
returns-clause-fits g c = ok_always c.made_by.result (subst (λ ds. Fits (fields_of c.args.index) (map document_told ds))
    c.deref-document-items.ensures.value
    (All_whole document_told (λ d. length d.values ≤ length (fields_of c.args.index))
    c.deref-document-items.result.now c.loop-document.document-index c.loop-document-test.false
    c.loop-document.invariant.fits))

pub returns-clause-ok : goal.returns-clause-ok
returns-clause-ok g c = ok_more c.made_by.result _ _ (λ made holds language built.
    made_in (input_told c.args.input.now) language _ _ _ _ _ (g.M.Make.makes c.args.maker.now made)
    (plan_alike name_in (λ z. (goal.PipelineFn-dyn g z).name_text z.1) c.args.index c.loop-document.index
    c.loop-document.invariant.settings) built
    (all_taken _ _ _ c.deref-document-items.result.now c.args.input.now.documents.items c.loop-document.document-index
    c.deref-document-items.ensures.value c.loop-document-test.false c.loop-document.invariant.taken)
    holds)
    c.made_by.ensures.ok
