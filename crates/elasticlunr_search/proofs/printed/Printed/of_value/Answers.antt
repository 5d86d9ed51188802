use Rattle.std.proofs.Common.{sym, subst, ◌∙◌}
use Rattle.serde_json.specs.View.{view}
use Rattle.elasticlunr_text.specs.Text.{bytes_of}
use Rattle.elasticlunr_search.specs.Refusal.{Lacks}
use Rattle.elasticlunr_search.specs.Fields.{HasWholeTries}
use Rattle.elasticlunr_search.specs.declared.error.SearchError.TheVariants.{BadTries}
use Rattle.elasticlunr_search.proofs.FieldTries.{tables_as_many}
use Rattle.elasticlunr_search.proofs.Stops.{by_exit}
use Rattle.elasticlunr_search.proofs.printed.Printed.of_value.Goals as goal

pub returns-in_err-tries-clause-lacks : goal.returns-in_err-tries-clause-lacks
returns-in_err-tries-clause-lacks c = by_exit c.from_residual-in_err-tries.result (Lacks (view c.args.value.now))
    BadTries _ c.in_err-tries.field-0.0 c.from_residual-in_err-tries.ensures.1 tt
    (λ none. (
      bytes_of c.in_ok-fields.fields.items,
      c.in_ok-fields.ensures.ok,
      λ tables tries. none tables
          (subst (λ ns. HasWholeTries (view c.args.value.now) (bytes_of ns) tables) (sym c.deref.ensures.value) tries),
    ))
    c.in_err-tries.ensures.err

pub invariant_of-result : goal.invariant_of-result
invariant_of-result c =
    let fields = c.in_ok-fields.fields in
    let tries = c.in_ok-tries.tries in
    let many = tables_as_many (view c.args.value.now) fields.items tries.items
    (subst (λ ns. HasWholeTries (view c.args.value.now) (bytes_of ns) tries.items) c.deref.ensures.value
    c.in_ok-tries.ensures.ok) in
    record { one_each = tries.ok.0 ∙ many ∙ sym fields.ok.0 }
