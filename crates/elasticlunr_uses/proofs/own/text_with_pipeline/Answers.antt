use Rattle.std.proofs.Common.{◌≡◌, None, true, codes, string_bytes, ap, subst, ◌∙◌}
use Rattle.std.specs.Prelude.{IfSome}
use Rattle.elasticlunr.specs.Choices.{IsBuiltBy, plan_with, with_field}
use Rattle.elasticlunr.specs.History.{none, ◌▸◌, add}
use Rattle.elasticlunr.specs.Index.{choices_of}
use Rattle.elasticlunr.specs.Printed.{IsPrintOf}
use Rattle.elasticlunr.specs.Stages.{names_by}
use Rattle.elasticlunr_laws.proofs.Built.{built_with, document_of_run, piped}
use Rattle.elasticlunr_uses.proofs.own.text_with_pipeline.Goals as goal

pub returns-clause-text : goal.returns-clause-text
returns-clause-text g c =
    let index = choices_of c.in_ok-index.index in
    let given = c.in_ok-add_field.ensures.chosen ∙ ap (with_field (codes "about") None) (c.with_pipeline.ensures
    ∙ ap (piped c.args.pipeline) c.in_ok-with_language.ensures.chosen) in
    let built = built_with _ index (subst (λ ch. IsBuiltBy ch index) given c.in_ok-index.ensures.given) c.args.pipeline
    (subst (λ ch. IfSome ch.pipeline (λ q. index.pipeline ≡ q)) given c.in_ok-index.ensures.own) in
    let added = c.in_ok-add_doc.ensures.added in (
      added.0,
      subst (λ ch. IsPrintOf (plan_with (λ _. codes "Plain") (names_by (λ z. (goal.PipelineFn-dyn g z).name_text z.1)) ch)
          (none ▸ add added.0) (string_bytes c.in_ok-text.text)) (c.in_ok-add_doc.ensures.settings ∙ built)
          (c.in_ok-text.ensures.print (none ▸ add added.0) (added.2 none c.in_ok-index.ensures.empty)),
      document_of_run _ _ _ index _ _ added.0 added.1 _ c.args.pipeline (codes "about") (codes "id") true built,
    )
