use Rattle.std.proofs.Common.{◌≡◌, ◌≢◌, take}
use Rattle.std.specs.Prelude.{All, sum}
use Rattle.elasticlunr_piece_head.proofs.counts.total_of.Given as goal

-- the sum so far, of numbers that aren't 0
abbrev pub invariant-loop-count : goal.invariant-loop-count
invariant-loop-count l = (l.total ≡ sum (take l.count-index l.counts)) × All (λ count. count ≢ 0) (take l.count-index l.counts)
