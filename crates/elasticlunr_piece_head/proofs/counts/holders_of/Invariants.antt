use Rattle.std.proofs.Common.{◌≡◌, ◌++◌, drop}
use Rattle.elasticlunr_piece_head.specs.Holders.{holders_from}
use Rattle.elasticlunr_piece_head.proofs.counts.holders_of.Given as goal

-- with the pieces that are left it has all
abbrev pub invariant-loop-number : goal.invariant-loop-number
invariant-loop-number l = l.holders.items ++ holders_from l.number (drop l.number l.counts) ≡ holders_from 0 l.counts
