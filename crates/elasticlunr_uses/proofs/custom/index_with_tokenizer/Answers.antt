use Rattle.std.proofs.Common.{None, Some, codes, ap, ◌∙◌}
use Rattle.elasticlunr.specs.AnyLanguage.TheVariants.{English as english}
use Rattle.elasticlunr.specs.Choices.{language_plan, plan_with, with_field}
use Rattle.elasticlunr.specs.Index.{choices_of}
use Rattle.elasticlunr.specs.Known.{language_name, language_stages}
use Rattle.elasticlunr.specs.Stages.{names_by}
use Rattle.elasticlunr.proofs.Choosing.{where_none}
use Rattle.elasticlunr.proofs.Holding.{if_ok}
use Rattle.elasticlunr_laws.proofs.Built.{document_of_titled, print_with}
use Rattle.elasticlunr_uses.proofs.custom.index_with_tokenizer.Goals as goal

pub returns-clause-text : goal.returns-clause-text
returns-clause-text g c language fresh =
    let titled = c.in_ok-add_field_with_tokenizer.ensures.chosen in
    let given = c.in_ok-add_field.ensures.chosen ∙ ap (with_field (codes "body") None)
    (titled.1 ∙ ap (with_field (codes "title") (Some titled.0)) fresh) in
    let plan = ap (plan_with (λ _. language_name english) (names_by (λ z. (goal.PipelineFn-dyn g z).name_text z.1)))
    c.in_ok-add_doc.ensures.settings ∙ (where_none _ _ (ap (λ ch. ch.pipeline) given) c.in_ok-index.ensures.plan
    ∙ ap (language_plan (λ _. language_name english) (λ _. language_stages english)) given) in
    let leaves = where_none _ _ (ap (λ ch. ch.pipeline) given) c.in_ok-index.ensures.leaves in
    let added = c.in_ok-add_doc.ensures.added in
    let document = document_of_titled _ _ _ (choices_of c.in_ok-index.index) _ _ added.0 added.1 _
    c.in_ok-index.ensures.given language titled.0 (codes "title") (codes "body") given _
    (λ value made. (titled.2 value made).0) _ leaves _ (λ value tokens read. read) (λ value tokens read. read) in
    if_ok c.to_json.result _ _ (λ text print. print_with _ _ added.0 _ _ plan
    (print _ (added.2 _ c.in_ok-index.ensures.empty)) document) c.to_json.ensures.print
