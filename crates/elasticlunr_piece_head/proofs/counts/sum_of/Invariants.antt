use Rattle.std.proofs.Common.{◌≡◌, take}
use Rattle.std.specs.Prelude.{sum}
use Rattle.elasticlunr_piece_head.proofs.counts.sum_of.Given as goal

-- the sum so far
abbrev pub invariant-loop-count : goal.invariant-loop-count
invariant-loop-count l = l.total ≡ sum (take l.count-index l.counts)
