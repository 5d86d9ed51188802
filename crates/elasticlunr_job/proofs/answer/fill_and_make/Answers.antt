use Rattle.std.proofs.Common.{◌≡◌, ◌≤◌, [], Err, Any, map, length, inl, refl, ap, subst, ◌∙◌, arith}
use Rattle.elasticlunr.specs.Index.{fields_of}
use Rattle.elasticlunr_lang.specs.Known.{language_name}
use Rattle.elasticlunr_job.specs.Answer.{HasTooMany}
use Rattle.elasticlunr.specs.Fields.{borrowed}
use Rattle.elasticlunr_text.specs.Text.{texts_of}
use Rattle.elasticlunr_job.specs.Filled.{Fits}
use Rattle.elasticlunr_job.specs.Given.{AreGiven, kept_lists}
use Rattle.elasticlunr_job_format.specs.JobTold.{document_told, job_told}
use Rattle.elasticlunr_job_format.specs.Rules.{given_rules}
use Rattle.elasticlunr_job.proofs.Alike.{compacted_not, compacted_then, fits_told, given_alike, not_refused}
use Rattle.elasticlunr_job.proofs.Alike.{plan_alike, same_settings, still_works, too_many_told, works_then}
use Rattle.elasticlunr_job.proofs.Filling.{Any_at, All_more, are_given, All_whole, done, next_removed, next_taken}
use Rattle.elasticlunr_job.proofs.Printing.{carried}
use Rattle.elasticlunr_job.proofs.Stops.{err_more, later_too_many, ok_always, ok_more}
use Rattle.elasticlunr_job.proofs.answer.fill_and_make.Goals as goal
use Rattle.std.proofs.Common.{rules}
use Rattle.elasticlunr_job.proofs.answer.fill_and_make.Goals.{then-job+in_ok-compact, else-job}

pub loop-doc-init : goal.loop-doc-init
loop-doc-init g c = record {
  taken = record
      { documents = []; each = tt; follows = record { stands = λ commands stands. stands } };
  settings = refl;
  fits =
      λ k d within. absurd (omega (arith, within));
  works = λ works. works;
}

pub returns-in_err-add_doc_with_tokens-clause-err : goal.returns-in_err-add_doc_with_tokens-clause-err
returns-in_err-add_doc_with_tokens-clause-err g c =
    let docs = c.deref-doc-items.result.now in
    let doc = c.doc-item.result in
    let rules = given_rules c.args.rules.now in
    let fields = (job_told c.args.job.now).fields in
    let texts = (document_told doc).values in
    let lists = map (λ list. texts_of list.items) c.deref-in-loop-doc-5.result.now in
    let kept : lists ≡ kept_lists rules fields texts =
    ap (map (λ list. texts_of list.items)) c.deref-in-loop-doc-5.ensures.value ∙ c.in_ok-kept.ensures
    ∙ ap (λ names. kept_lists rules (borrowed names) (borrowed c.deref-in-loop-doc.result.now)) c.deref.ensures.value
    ∙ ap (λ values. kept_lists rules fields (borrowed values)) c.deref-in-loop-doc.ensures.value in
    let given : AreGiven texts (kept_lists rules fields texts) c.deref-in-loop-doc-6.result.now =
    are_given rules fields texts lists c.in_ok-values.values.items c.deref-in-loop-doc-6.result.now kept
    c.deref-in-loop-doc-6.ensures.value
    (subst (λ values. AreGiven (borrowed values) lists c.in_ok-values.values.items) c.deref-in-loop-doc-3.ensures.value
    c.in_ok-values.ensures) in
    let same = c.loop-doc.invariant.settings in
    later_too_many c.from_residual-in_err-add_doc_with_tokens.result _ _ _ _
    c.from_residual-in_err-add_doc_with_tokens.ensures.1 c.loop-doc.invariant.works
    (λ is. c.add_doc_with_tokens.ensures.failed.0 (c.in_err-add_doc_with_tokens.was ∙ ap Err is))
    (λ is. subst (λ ds. Any (HasTooMany (fields_of c.args.index)) (map document_told ds))
    c.deref-doc-items.ensures.value
    (Any_at document_told (HasTooMany (fields_of c.args.index)) docs c.loop-doc.doc-index doc c.loop-doc-test.true
    c.doc-item.is
    (too_many_told c.args.index c.loop-doc.index doc (kept_lists rules fields texts)
    c.deref-in-loop-doc-6.result.now same given
    (c.add_doc_with_tokens.ensures.too_many.0 (c.in_err-add_doc_with_tokens.was ∙ ap Err is)).1)))
    c.in_err-add_doc_with_tokens.ensures.errors

pub loop-doc-preserved : goal.loop-doc-preserved
loop-doc-preserved g c =
    let docs = c.deref-doc-items.result.now in
    let doc = c.doc-item.result in
    let rules = given_rules c.args.rules.now in
    let fields = (job_told c.args.job.now).fields in
    let texts = (document_told doc).values in
    let lists = map (λ list. texts_of list.items) c.deref-in-loop-doc-5.result.now in
    let kept : lists ≡ kept_lists rules fields texts =
    ap (map (λ list. texts_of list.items)) c.deref-in-loop-doc-5.ensures.value ∙ c.in_ok-kept.ensures
    ∙ ap (λ names. kept_lists rules (borrowed names) (borrowed c.deref-in-loop-doc.result.now)) c.deref.ensures.value
    ∙ ap (λ values. kept_lists rules fields (borrowed values)) c.deref-in-loop-doc.ensures.value in
    let given : AreGiven texts (kept_lists rules fields texts) c.deref-in-loop-doc-6.result.now =
    are_given rules fields texts lists c.in_ok-values.values.items c.deref-in-loop-doc-6.result.now kept
    c.deref-in-loop-doc-6.ensures.value
    (subst (λ values. AreGiven (borrowed values) lists c.in_ok-values.values.items) c.deref-in-loop-doc-3.ensures.value
    c.in_ok-values.ensures) in
    let same = c.loop-doc.invariant.settings in
    let i = c.loop-doc.doc-index in
    let made = c.in_ok-add_doc_with_tokens.ensures.added in
    record {
      taken = next_taken _ _ _ _ docs i doc doc.values.items c.loop-doc-test.true c.doc-item.is refl
          c.loop-doc.invariant.taken made.0
          (given_alike rules fields _ (λ z. (goal.PipelineFn-dyn g z).leaves z.1) c.args.index c.loop-doc.index same _
          texts made.0 (c.deref-in-loop-doc-6.result.now, given, made.1)) made.2;
      settings = c.add_doc_with_tokens.ensures.settings ∙ same;
      fits = All_more document_told (λ doc. length doc.values ≤ length (fields_of c.args.index)) docs i doc
          c.loop-doc-test.true c.doc-item.is c.loop-doc.invariant.fits
          (fits_told c.args.index c.loop-doc.index doc (kept_lists rules fields texts)
          c.deref-in-loop-doc-6.result.now same given
          (λ over. not_refused c.add_doc_with_tokens.result _ _ _ _ _ c.in_ok-add_doc_with_tokens.was
          c.add_doc_with_tokens.ensures.failed c.add_doc_with_tokens.ensures.too_many over));
      works = λ _. still_works c.add_doc_with_tokens.result _ _ _ _ c.in_ok-add_doc_with_tokens.was
          c.add_doc_with_tokens.ensures.fails;
    }

pub loop-reference-init : goal.loop-reference-init
loop-reference-init g c = record {
  follows = record { stands = λ commands stands. stands };
  settings =
      c.loop-doc.invariant.settings;
  works = c.loop-doc.invariant.works;
}

pub loop-reference-preserved : goal.loop-reference-preserved
loop-reference-preserved g c = record {
  follows = next_removed _ _ _ c.deref-reference-items.result.now c.loop-reference.reference-index _
      c.loop-reference-test.true c.loop-reference.invariant.follows c.in_ok-remove_doc.ensures.removed;
  settings = c.remove_doc.ensures.settings ∙ c.loop-reference.invariant.settings;
  works = λ works. works_then c.loop-reference.index c.remove_doc.new.self c.remove_doc.new.self refl
      c.remove_doc.ensures.fails (c.loop-reference.invariant.works works);
}

pub returns-clause-err : goal.returns-clause-err
returns-clause-err g c = err_more c.made_of.result _ _ (λ stop memory works. inl memory) c.made_of.ensures.err

pub returns-clause-fits : goal.returns-clause-fits
returns-clause-fits g c = ok_always c.made_of.result (subst (λ ds. Fits (fields_of c.args.index) (map document_told ds))
    c.deref-doc-items.ensures.value
    (All_whole document_told (λ doc. length doc.values ≤ length (fields_of c.args.index)) c.deref-doc-items.result.now
    c.loop-doc.doc-index c.loop-doc-test.false c.loop-doc.invariant.fits))

pub returns-clause-ok : goal.returns-clause-ok
returns-clause-ok g c = ok_more c.made_of.result _ _ (λ made holds language built. elim c.if-job.branch [
  | then-job+in_ok-compact w ↦ carried (given_rules c.args.rules.now) (job_told c.args.job.now) language _ _ _ _ _ (g.M.Make.makes c.args.maker.now made)
      (plan_alike language_name (λ z. (goal.PipelineFn-dyn g z).name_text z.1) c.args.index c.if-job.index
      (same_settings c.args.index c.loop-reference.index w.compact.new.self c.if-job.index w.index-is
      w.compact.ensures.settings c.loop-reference.invariant.settings))
      built
      (done _ _ _ _ _ c.args.job.now c.deref-doc-items.result.now c.loop-doc.doc-index
      c.deref-reference-items.result.now c.loop-reference.reference-index
      c.deref-doc-items.ensures.value c.deref-reference-items.ensures.value c.loop-doc-test.false
      c.loop-reference-test.false c.loop-doc.invariant.taken c.loop-reference.invariant.follows
      (compacted_then language_name (λ z. (goal.PipelineFn-dyn g z).name_text z.1) c.loop-reference.index
      w.compact.new.self c.if-job.index c.args.job.now.compact w.index-is w.if-job.true
      w.in_ok-compact.ensures.compacted))
      holds
  | else-job w ↦ carried (given_rules c.args.rules.now) (job_told c.args.job.now) language _ _ _ _ _ (g.M.Make.makes c.args.maker.now made)
      (plan_alike language_name (λ z. (goal.PipelineFn-dyn g z).name_text z.1) c.args.index c.if-job.index
      (same_settings c.args.index c.loop-reference.index c.loop-reference.index c.if-job.index w.index-is refl
      c.loop-reference.invariant.settings))
      built
      (done _ _ _ _ _ c.args.job.now c.deref-doc-items.result.now c.loop-doc.doc-index
      c.deref-reference-items.result.now c.loop-reference.reference-index
      c.deref-doc-items.ensures.value c.deref-reference-items.ensures.value c.loop-doc-test.false
      c.loop-reference-test.false c.loop-doc.invariant.taken c.loop-reference.invariant.follows
      (compacted_not language_name (λ z. (goal.PipelineFn-dyn g z).name_text z.1) c.loop-reference.index c.if-job.index
      c.args.job.now.compact w.index-is w.if-job.false))
      holds
])
    c.made_of.ensures.ok

pub invariant_of-index : goal.invariant_of-index
invariant_of-index g c = search rules

pub invariant_of-index-in_err-words : goal.invariant_of-index-in_err-words
invariant_of-index-in_err-words g c = search rules

pub invariant_of-index-in_err-values : goal.invariant_of-index-in_err-values
invariant_of-index-in_err-values g c = search rules

pub invariant_of-index-in_err-add_doc_with_tokens : goal.invariant_of-index-in_err-add_doc_with_tokens
invariant_of-index-in_err-add_doc_with_tokens g c = search rules

pub invariant_of-index-in_err-remove_doc : goal.invariant_of-index-in_err-remove_doc
invariant_of-index-in_err-remove_doc g c = search rules

pub invariant_of-index-in_err-compact : goal.invariant_of-index-in_err-compact
invariant_of-index-in_err-compact g c = search rules

pub invariant_of-index-2 : goal.invariant_of-index-2
invariant_of-index-2 g c = search rules
