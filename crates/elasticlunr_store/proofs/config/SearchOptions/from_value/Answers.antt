use Rattle.std.proofs.Common.{◌≡◌, None, Some, codes, sym, ◌∙◌, subst}
use Rattle.serde_json.specs.Find.{get}
use Rattle.serde_json.specs.View.{view}
use Rattle.elasticlunr_store.specs.Options.{ReadsFields}
use Rattle.elasticlunr_json.proofs.Refusals.{refused_again}
use Rattle.std.proofs.Common.{rules}
use Rattle.elasticlunr_store.proofs.config.SearchOptions.from_value.Goals as goal

pub returns-in_err-fields-clause-err : goal.returns-in_err-fields-clause-err
returns-in_err-fields-clause-err c =
    refused_again _ _ (λ none options reads.
    let both : Some reads.under_fields ≡ Some (view c.in-Some-get.fields.now) = sym reads.there
    ∙ sym c.in-Some-get.ensures in
    let same : reads.under_fields ≡ view c.in-Some-get.fields.now = cc in
    none options.fields (subst (λ d. ReadsFields d options.fields) same reads.fields))
    c.in_err-fields.field-0.0 c.from_residual.result c.from_residual.ensures.1 c.in_err-fields.ensures.err

pub returns-clause-ok : goal.returns-clause-ok
returns-clause-ok c = record {
  bool = c.in-Some.ensures.found;
  expand = c.in-Some-read_expand.ensures.found;
  under_fields = view c.in-Some-get.fields.now;
  there = sym c.in-Some-get.ensures;
  fields = c.in_ok-fields.ensures.ok;
}

pub returns-in_default-get-clause-err : goal.returns-in_default-get-clause-err
returns-in_default-get-clause-err c options reads =
    let none : get (codes "fields") (view c.args.value.now) ≡ None = sym c.in_default-get.ensures in
    let some = reads.there in
    cc

pub returns-in_default-clause-err : goal.returns-in_default-clause-err
returns-in_default-clause-err c = search rules

pub returns-in_default-read_expand-clause-err : goal.returns-in_default-read_expand-clause-err
returns-in_default-read_expand-clause-err c = search rules
