use Rattle.std.proofs.Common.{◌≡◌, map, string_bytes, take}
use Rattle.elasticlunr_ranking.specs.Order.{told_hits}
use Rattle.elasticlunr_search.specs.Lines.{lines}
use Rattle.elasticlunr_hits.proofs.lines.reference_lines.Given as goal

-- the lines of the hits so far
abbrev pub invariant-loop-hit : goal.invariant-loop-hit
invariant-loop-hit l = string_bytes l.text ≡ lines (map (λ hit. hit.0) (told_hits (take l.hit-index l.hits)))
