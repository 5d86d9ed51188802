use Rattle.std.proofs.Common.{◌∷◌, [], codes, string_bytes, refl, subst}
use Rattle.std.specs.Str.{chars}
use Rattle.elasticlunr.specs.Trimmed.{unless_empty}
use Rattle.elasticlunr.specs.Words.{words}
use Rattle.elasticlunr.proofs.Calling.{document_more}
use Rattle.elasticlunr.proofs.Holding.{if_ok}
use Rattle.elasticlunr.specs.Choices.{fields_plan}
use Rattle.elasticlunr.specs.History.{none, ◌▸◌, add}
use Rattle.elasticlunr.specs.Printed.{IsPrintOf}
use Rattle.elasticlunr_laws.proofs.Stages.{names_are, trims_and_leaves}
use Rattle.elasticlunr_uses.proofs.own.text_of_words.Goals as goal

pub returns-clause-text : goal.returns-clause-text
returns-clause-text c =
    let own = c.into_dyn_box.result in
    let there = c.into_dyn_box.ensures.0 in
    let stages = c.in_ok-queue.ensures.items in
    if_ok c.text_with_pipeline.result _ _ (λ text is. (
      is.0,
      subst (λ names. IsPrintOf (fields_plan (codes "Plain") names (codes "about" ∷ [])) (none ▸ add is.0)
          (string_bytes text)) (names_are own _ there _ c.in_ok-queue.queue.items stages (codes "dropEmpty")
          (λ value. refl)) is.1,
      document_more _ _ _ _ (λ i value tokens read. trims_and_leaves own _ there _ unless_empty
          (λ token v. refl) c.in_ok-queue.queue.items stages (words (chars value)) tokens read) _ _ is.0 is.2,
    )) c.text_with_pipeline.ensures.text
