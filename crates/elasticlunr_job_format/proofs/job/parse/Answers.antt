use Rattle.std.proofs.Common.{inr, codes, map, refl, sym, ap, Some, ◌∙◌}
use Rattle.serde_json.specs.Data.{array, boolean, string}
use Rattle.serde_json.specs.View.{items_of, view}
use Rattle.elasticlunr_job_format.specs.Job.{document, get_or}
use Rattle.elasticlunr_job_format.specs.JobTold.{document_told}
use Rattle.elasticlunr_job_format.proofs.JobValues.{map-map, not_given, not_required, other_given}
use Rattle.elasticlunr_job_format.proofs.KeyTests.{has_only, has_others}
use Rattle.elasticlunr_job_format.proofs.Exits.{at_exit}
use Rattle.elasticlunr_job_format.proofs.job.parse.Goals as goal

pub returns-then-not-has_only_job_keys-clause-err :
    goal.returns-then-not-has_only_job_keys-clause-err
returns-then-not-has_only_job_keys-clause-err c =
    inr (
      refl,
      λ job is. has_others _ c.in-Some.members.now.entries c.in-Some.ensures (sym c.has_only_job_keys.ensures
          ∙ c.if-not-has_only_job_keys.true) is.no_others,
    )

pub returns-in_err-required-clause-err : goal.returns-in_err-required-clause-err
returns-in_err-required-clause-err c = at_exit c.from_residual.result _ _ _ c.in_err-required.field-0.0
    c.from_residual.ensures.1
    (λ other job is. not_required string _ job.fields other is.fields) c.in_err-required.ensures.err

pub returns-in_err-required-2-clause-err : goal.returns-in_err-required-2-clause-err
returns-in_err-required-2-clause-err c = at_exit c.from_residual-in_err-required-2.result _ _ _
    c.in_err-required-2.field-0.0 c.from_residual-in_err-required-2.ensures.1
    (λ other job is. not_required document _ job.docs other is.docs) c.in_err-required-2.ensures.err

pub returns-in_err-member_or-clause-err : goal.returns-in_err-member_or-clause-err
returns-in_err-member_or-clause-err c = at_exit c.from_residual-in_err-member_or.result _ _ _
    c.in_err-member_or.field-0.0 c.from_residual-in_err-member_or.ensures.1
    (λ other job is. other_given string _ _ job.reference_field other is.reference_field) c.in_err-member_or.ensures.err

pub returns-in_err-member_or-2-clause-err : goal.returns-in_err-member_or-2-clause-err
returns-in_err-member_or-2-clause-err c = at_exit c.from_residual-in_err-member_or-2.result _ _ _
    c.in_err-member_or-2.field-0.0 c.from_residual-in_err-member_or-2.ensures.1
    (λ other job is. other_given boolean _ _ job.save other is.save) c.in_err-member_or-2.ensures.err

pub returns-in_err-member_or-3-clause-err : goal.returns-in_err-member_or-3-clause-err
returns-in_err-member_or-3-clause-err c = at_exit c.from_residual-in_err-member_or-3.result _ _ _
    c.in_err-member_or-3.field-0.0 c.from_residual-in_err-member_or-3.ensures.1
    (λ other job is. other_given string _ _ job.language other is.language) c.in_err-member_or-3.ensures.err

pub returns-in_err-member_or-4-clause-err : goal.returns-in_err-member_or-4-clause-err
returns-in_err-member_or-4-clause-err c = at_exit c.from_residual-in_err-member_or-4.result _ _ _
    c.in_err-member_or-4.field-0.0 c.from_residual-in_err-member_or-4.ensures.1
    (λ other job is. other_given boolean _ _ job.pretty other is.pretty) c.in_err-member_or-4.ensures.err

pub returns-in_err-member_or-5-clause-err : goal.returns-in_err-member_or-5-clause-err
returns-in_err-member_or-5-clause-err c = at_exit c.from_residual-in_err-member_or-5.result _ _ _
    c.in_err-member_or-5.field-0.0 c.from_residual-in_err-member_or-5.ensures.1
    (λ other job is. not_given string _ _ job.remove other is.remove) c.in_err-member_or-5.ensures.err

pub returns-in_err-member_or-6-clause-err : goal.returns-in_err-member_or-6-clause-err
returns-in_err-member_or-6-clause-err c = at_exit c.from_residual-in_err-member_or-6.result _ _ _
    c.in_err-member_or-6.field-0.0 c.from_residual-in_err-member_or-6.ensures.1
    (λ other job is. other_given boolean _ _ job.compact other is.compact) c.in_err-member_or-6.ensures.err

pub returns-clause-ok : goal.returns-clause-ok
returns-clause-ok c = record {
  fields = c.in_ok-required.ensures.ok ∙ ap (λ ds. Some (array (items_of ds)))
      (sym (map-map (λ s. s.now) string c.in_ok-required.field-0.items));
  docs = c.in_ok-required-2.ensures.ok ∙ ap (λ ds. Some (array (items_of ds)))
      (sym (map-map document_told document c.in_ok-required-2.field-0.items));
  reference_field = c.in_ok-member_or.ensures.ok;
  save = c.in_ok-member_or-2.ensures.ok;
  language = c.in_ok-member_or-3.ensures.ok;
  pretty = c.in_ok-member_or-4.ensures.ok;
  remove = ap (λ ss. get_or (codes "remove") (view c.args.value.now) (array (items_of (map (λ s. string s.now) ss))))
      (sym c.new.ensures.items) ∙ (c.in_ok-member_or-5.ensures.ok
      ∙ ap (λ ds. array (items_of ds)) (sym (map-map (λ s. s.now) string c.in_ok-member_or-5.field-0.items)));
  compact = c.in_ok-member_or-6.ensures.ok;
  no_others = has_only _ c.in-Some.members.now.entries c.in-Some.ensures (sym c.has_only_job_keys.ensures
      ∙ c.if-not-has_only_job_keys.false);
}
