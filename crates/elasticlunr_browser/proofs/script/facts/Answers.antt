use Rattle.std.proofs.Common.{◌∙◌, ap, map}
use Rattle.serde_json.specs.Data.{array}
use Rattle.serde_json.specs.View.{view, items_of}
use Rattle.serde_json.proofs.Views.{view-Array}
use Rattle.elasticlunr_text.specs.Text.{bytes_of}
use Rattle.elasticlunr_browser.specs.Stages.{texts, numbers}
use Rattle.elasticlunr_browser.specs.Facts.{facts_data}
use Rattle.elasticlunr_browser.proofs.script.facts.Goals as goal

pub returns : goal.returns
returns c = record {
  marks = c.in_ok-marks.marks.items;
  pairs = c.in_ok-pairs.pairs.items;
  are_marks = c.in_ok-marks.ensures;
  are_pairs = c.in_ok-pairs.ensures;
  value = c.in_ok-value.ensures
      ∙ ap (λ d. facts_data (view c.in_ok-between.between) (view c.in_ok-lower.lower) d) (view-Array c.args.stages)
      ∙ ap (λ d. facts_data d (view c.in_ok-lower.lower) (array (items_of (map view c.args.stages.items))))
      (c.in_ok-between.ensures ∙ ap numbers c.deref.ensures.value)
      ∙ ap (λ d. facts_data (numbers c.in_ok-marks.marks.items) d (array (items_of (map view c.args.stages.items))))
      (c.in_ok-lower.ensures ∙ ap (λ ss. texts (bytes_of ss)) c.deref-2.ensures.value);
}
