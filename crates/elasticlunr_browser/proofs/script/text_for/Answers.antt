use Rattle.std.proofs.Common.{◌∙◌, ◌++◌, ap, map}
use Rattle.serde_json.specs.View.{view}
use Rattle.elasticlunr_browser.specs.Facts.{has_table, stemmer_part}
use Rattle.elasticlunr_browser.specs.declared.template.TheConstants.{HEAD, STAGES, TAIL}
use Rattle.elasticlunr_browser.proofs.FloatLemmas.{none-facts}
use Rattle.elasticlunr_browser.proofs.script.text_for.Goals as goal

pub returns : goal.returns
returns c = (
  map view c.in_ok-stages.stages.items,
  view c.in_ok-known.known,
  c.in_ok-stages.ensures,
  c.in_ok-known.ensures,
  c.in_ok-text.ensures
      ∙ ap (λ part. HEAD.now ++ c.as_str.result.now ++ STAGES.now ++ part ++ TAIL.now)
      (c.stemmer_part.ensures ∙ ap stemmer_part c.has_table.ensures)
      ∙ ap (λ bs. HEAD.now ++ bs ++ STAGES.now ++ stemmer_part (has_table c.args.chosen.now) ++ TAIL.now)
      (c.as_str.ensures.value
      ∙ c.in_ok-printed.ensures.text (none-facts c.args.chosen.now (map view c.in_ok-stages.stages.items)
      (view c.in_ok-known.known) c.in_ok-stages.ensures c.in_ok-known.ensures)),
)
