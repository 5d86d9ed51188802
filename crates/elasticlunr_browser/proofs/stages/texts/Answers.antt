use Rattle.std.proofs.Common.{ap, ◌∙◌, map}
use Rattle.std.proofs.lemmas.List.{take_all}
use Rattle.serde_json.specs.Data.{array, string}
use Rattle.serde_json.specs.View.{items_of}
use Rattle.serde_json.proofs.Views.{view-Array}
use Rattle.elasticlunr_text.specs.Text.{bytes_of}
use Rattle.elasticlunr_browser.proofs.stages.texts.Goals as goal

pub returns : goal.returns
returns c =
    view-Array c.loop-word.items
    ∙ ap (λ ds. array (items_of ds)) c.loop-word.invariant
    ∙ ap (λ words. array (items_of (map string (bytes_of words))))
    (take_all c.loop-word.word-index c.args.words.now c.loop-word-test.false)
