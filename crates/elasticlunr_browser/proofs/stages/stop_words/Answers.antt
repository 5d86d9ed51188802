use Rattle.std.proofs.Common.{◌∙◌, ap}
use Rattle.serde_json.specs.View.{view}
use Rattle.elasticlunr_text.specs.Text.{bytes_of}
use Rattle.elasticlunr_text.specs.StopWords.{filter_name}
use Rattle.elasticlunr_browser.specs.Stages.{filter_data, texts}
use Rattle.elasticlunr_browser.proofs.stages.stop_words.Goals as goal

pub returns : goal.returns
returns c = record {
  words = c.in_ok-listed.listed.items;
  listed = c.in_ok-listed.ensures;
  value = c.in_ok-value.ensures
      ∙ ap (λ bs. filter_data bs (view c.in_ok-words.words)) (c.as_str.ensures.value ∙ c.in_ok-name.ensures)
      ∙ ap (λ d. filter_data (filter_name c.args.filter.now) d) (c.in_ok-words.ensures
      ∙ ap (λ ss. texts (bytes_of ss)) c.deref.ensures.value);
}
