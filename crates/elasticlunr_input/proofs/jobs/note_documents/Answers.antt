use Rattle.std.proofs.Common.{◌≤◌, ◌+◌, ◌++◌, ◌||◌, [], length, map, min, take, subst, ap, ◌∙◌, arith}
use Rattle.std.proofs.lemmas.List.{take_all}
use Rattle.elasticlunr_job_format.specs.JobTold.{document_told, job_told}
use Rattle.elasticlunr_job_format.specs.ObjectsTold.{texts_told}
use Rattle.elasticlunr_input.specs.Noted.{has_value, stored_under, too_long_of}
use Rattle.elasticlunr_input.specs.NotedAll.{AreNoted, HasRules, told_of_job}
use Rattle.elasticlunr_input.specs.Settled.{settings_told}
use Rattle.elasticlunr_input.specs.Warnings.{end_warnings, has_text, warnings_of}
use Rattle.elasticlunr_input.proofs.NotingAll.{all_noted, noted_document, noted_more, on_more, one_told, told_long}
use Rattle.std.proofs.lemmas.Grind.{common_steps}
use Rattle.elasticlunr_input.proofs.jobs.note_documents.Goals as goal

pub loop-doc-preserved : goal.loop-doc-preserved
loop-doc-preserved c =
    let docs = c.deref-doc-items.result.now in
    let i = c.loop-doc.doc-index in
    let doc = c.doc-item.result in
    let begun = c.rules.new.self in
    let mid = c.loop-doc.notes in
    let new = c.document.new.self in
    let value = c.deref-in-loop-doc.ensures.value in
    let noted = noted_document mid new (document_told doc) c.in_ok-document.ensures.taken
    c.in_ok-document.ensures.warnings c.in_ok-document.ensures.number
    (λ n. c.in_ok-document.ensures.texts n ∙ ap (λ vs. has_text mid n || has_value (texts_told vs) n) value)
    (c.in_ok-document.ensures.words
    ∙ ap (λ vs. min (mid.longer + too_long_of mid (texts_told vs)) 18446744073709551615) value)
    c.in_ok-document.ensures.known c.in_ok-document.ensures.limits in
    subst (AreNoted begun new) (one_told docs i doc c.loop-doc-test.true c.doc-item.is)
    (noted_more begun mid new (take i (told_of_job (map document_told docs))) (document_told doc, [])
    c.loop-doc.invariant noted)

pub returns : goal.returns
returns c =
    let settings = settings_told c.args.settings.now in
    let old = c.args.notes.now in
    let begun = c.rules.new.self in
    let last = c.loop-doc.notes in
    let new = c.end.new.self in
    let job = job_told c.args.job.now in
    let docs = c.deref-doc-items.result.now in
    let i = c.loop-doc.doc-index in
    let long = told_long docs in
    let past : length (told_of_job (map document_told docs)) ≤ i = omega (arith, c.loop-doc-test.false, long) in
    let told = told_of_job job.docs in
    let noted : AreNoted begun last told =
    subst (λ ds. AreNoted begun last (told_of_job (map document_told ds))) c.deref-doc-items.ensures.value
    (subst (AreNoted begun last) (take_all i (told_of_job (map document_told docs)) past) c.loop-doc.invariant) in
    let rules : HasRules settings.rules job.fields old begun = record {
      longest = c.in_ok-rules.ensures.longest;
      stored = c.in_ok-rules.ensures.stored
          ∙ ap (λ fs. old.is_stored.items ++ stored_under settings.rules (texts_told fs)) c.deref.ensures.value;
      seen = c.rules.ensures.seen;
    } in
    on_more c.end.result c.end.ensures.warnings (λ ends. (
      begun,
      rules,
      (
        last,
        noted,
        all_noted begun last new told job.fields noted
            (ends ∙ ap (λ fs. warnings_of last ++ end_warnings last (texts_told fs)) c.deref-2.ensures.value),
        c.end.ensures.words,
      ),
    ))

pub loop-doc-init : goal.loop-doc-init
loop-doc-init c = grind (arith, common_steps)
