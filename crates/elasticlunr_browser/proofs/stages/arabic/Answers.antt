use Rattle.std.proofs.Common.{◌∙◌, ap}
use Rattle.std.specs.Prelude.{codes}
use Rattle.serde_json.specs.View.{view}
use Rattle.elasticlunr_text.specs.Text.{bytes_of}
use Rattle.elasticlunr_browser.specs.Stages.{arabic_data, texts, numbers}
use Rattle.elasticlunr_browser.proofs.stages.arabic.Goals as goal

pub returns : goal.returns
returns c = record {
  marks = c.in_ok-marks.marks.items;
  pairs = c.in_ok-pairs.pairs.items;
  are_marks = c.in_ok-marks.ensures;
  are_pairs = c.in_ok-pairs.ensures;
  value = c.in_ok-value.ensures
      ∙ ap (λ bs. arabic_data bs (view c.in_ok-drops.drops) (view c.in_ok-changes.changes)) (c.as_str.ensures.value
      ∙ c.in_ok-name.ensures)
      ∙ ap (λ d. arabic_data (codes "stemmer-ar") d (view c.in_ok-changes.changes)) (c.in_ok-drops.ensures
      ∙ ap numbers c.deref.ensures.value)
      ∙ ap (λ d. arabic_data (codes "stemmer-ar") (numbers c.in_ok-marks.marks.items) d) (c.in_ok-changes.ensures
      ∙ ap (λ ss. texts (bytes_of ss)) c.deref-2.ensures.value);
}
