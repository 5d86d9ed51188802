use Rattle.std.proofs.Common.{IsTrue, inr, refl, sym, subst, ◌∙◌, true≢false}
use Rattle.elasticlunr_text.specs.Text.{bytes_of}
use Rattle.elasticlunr_text.specs.IndexError.TheVariants.{Memory}
use Rattle.elasticlunr_commands.specs.Fields.{has_name}
use Rattle.elasticlunr.proofs.Failing.{passed_on, memory_duplicate, not_named, refused_errors}
use Rattle.elasticlunr.proofs.builder.push_field.Goals as goal

pub returns-then-is_some-clause-duplicate : goal.returns-then-is_some-clause-duplicate
returns-then-is_some-clause-duplicate g c = (
  λ _. subst (λ names. IsTrue (has_name c.args.field.now (bytes_of names))) c.deref.ensures.value
      (c.place_of.ensures.is_found.0 (sym c.is_some.ensures ∙ c.if-is_some.true)),
  λ _. refl,
)

pub returns-in_err-from_str-clause-duplicate : goal.returns-in_err-from_str-clause-duplicate
returns-in_err-from_str-clause-duplicate g c =
    memory_duplicate c.from_residual.result _ (passed_on _ Memory c.from_residual.ensures.1)
    (not_named c.args.fields.now.items c.deref.result.now c.args.field.now c.place_of.result c.is_some.result
    c.deref.ensures.value c.is_some.ensures c.if-is_some.false c.place_of.ensures.is_found)

pub returns-in_err-from_str-clause-errors : goal.returns-in_err-from_str-clause-errors
returns-in_err-from_str-clause-errors g c = refused_errors c.from_residual.result Memory
    (passed_on _ Memory c.from_residual.ensures.1) (inr refl)

pub returns-in_err-push-clause-duplicate : goal.returns-in_err-push-clause-duplicate
returns-in_err-push-clause-duplicate g c =
    memory_duplicate c.from_residual-in_err-push.result _ (passed_on _ Memory c.from_residual-in_err-push.ensures.1)
    (not_named c.args.fields.now.items c.deref.result.now c.args.field.now c.place_of.result c.is_some.result
    c.deref.ensures.value c.is_some.ensures c.if-is_some.false c.place_of.ensures.is_found)

pub returns-in_err-push-clause-errors : goal.returns-in_err-push-clause-errors
returns-in_err-push-clause-errors g c = refused_errors c.from_residual-in_err-push.result Memory
    (passed_on _ Memory c.from_residual-in_err-push.ensures.1) (inr refl)

pub returns-in_err-push-2-clause-duplicate : goal.returns-in_err-push-2-clause-duplicate
returns-in_err-push-2-clause-duplicate g c =
    memory_duplicate c.from_residual-in_err-push-2.result _ (passed_on _ Memory c.from_residual-in_err-push-2.ensures.1)
    (not_named c.args.fields.now.items c.deref.result.now c.args.field.now c.place_of.result c.is_some.result
    c.deref.ensures.value c.is_some.ensures c.if-is_some.false c.place_of.ensures.is_found)

pub returns-in_err-push-2-clause-errors : goal.returns-in_err-push-2-clause-errors
returns-in_err-push-2-clause-errors g c = refused_errors c.from_residual-in_err-push-2.result Memory
    (passed_on _ Memory c.from_residual-in_err-push-2.ensures.1) (inr refl)

pub returns-clause-duplicate : goal.returns-clause-duplicate
returns-clause-duplicate g c = (
  λ twice. absurd (cc (twice)),
  λ h. absurd (true≢false (sym h ∙ not_named c.args.fields.now.items c.deref.result.now c.args.field.now
      c.place_of.result c.is_some.result c.deref.ensures.value c.is_some.ensures c.if-is_some.false
      c.place_of.ensures.is_found)),
)
