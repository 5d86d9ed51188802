use Rattle.std.proofs.Common.{ap, ◌∙◌, map}
use Rattle.std.proofs.lemmas.List.{take_all}
use Rattle.serde_json.specs.Data.{array, number, unsigned}
use Rattle.serde_json.specs.View.{items_of}
use Rattle.serde_json.proofs.Views.{view-Array}
use Rattle.elasticlunr_browser.proofs.stages.numbers.Goals as goal

pub returns : goal.returns
returns c =
    view-Array c.loop-mark.items
    ∙ ap (λ ds. array (items_of ds)) c.loop-mark.invariant
    ∙ ap (λ marks. array (items_of (map (λ n. number (unsigned n)) marks)))
    (take_all c.loop-mark.mark-index c.args.marks.now c.loop-mark-test.false)
