use Rattle.elasticlunr_browser.proofs.PairLemmas.{is_dropped}
use Rattle.elasticlunr_browser.proofs.stages.DroppedCharClass.has.Goals as goal

pub returns : goal.returns
returns c = is_dropped c.in_ok-left.left c.is_none.result _ c.args.c c.is_none.ensures c.in_ok-left.ensures.left
    c.in_ok-token.ensures
