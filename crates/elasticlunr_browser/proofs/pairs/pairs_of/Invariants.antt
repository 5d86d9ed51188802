use Rattle.elasticlunr_text.specs.Text.{texts_of}
use Rattle.elasticlunr_browser.proofs.PairLemmas.{ArePairs}
use Rattle.elasticlunr_browser.proofs.pairs.pairs_of.Given as goal

-- the pairs so far are those of the characters so far
abbrev pub invariant-loop-code : goal.invariant-loop-code
invariant-loop-code g l = ArePairs (g.M.CharChange.changed l.change) l.code (texts_of l.pairs.items)
