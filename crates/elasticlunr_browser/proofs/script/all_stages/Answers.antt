use Rattle.std.proofs.Common.{map}
use Rattle.serde_json.specs.View.{view}
use Rattle.elasticlunr_browser.proofs.KindLemmas.{one_language}
use Rattle.elasticlunr_browser.proofs.script.all_stages.Goals as goal

pub loop-language-preserved : goal.loop-language-preserved
loop-language-preserved c =
    let put = c.in_ok-push_stages.ensures in
    one_language c.args.chosen.now c.loop-language.language-index _ (map view c.loop-language.stages.items)
    (map view c.push_stages.new.stages.items) put.0
    c.loop-language-test.true c.loop-language.invariant put.1 put.2
