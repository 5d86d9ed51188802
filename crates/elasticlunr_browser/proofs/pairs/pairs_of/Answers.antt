use Rattle.std.proofs.Common.{arith, rules}
use Rattle.elasticlunr_browser.proofs.PairLemmas.{no_pairs, one_more, all_pairs}
use Rattle.elasticlunr_browser.proofs.pairs.pairs_of.Goals as goal

pub loop-code-init : goal.loop-code-init
loop-code-init g c = no_pairs _ c.new-pairs.result.items (search rules)

pub loop-code-preserved : goal.loop-code-preserved
loop-code-preserved g c =
    one_more _ c.loop-code.code c.loop-code.pairs.items _ c.in_ok-found.found c.loop-code.invariant
    c.in_ok-found.ensures.some c.in_ok-found.ensures.none c.in_ok-push_some.ensures

pub returns : goal.returns
returns g c = all_pairs _ _ _ c.loop-code.invariant (omega arith)
