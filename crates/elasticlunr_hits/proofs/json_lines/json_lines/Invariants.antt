use Rattle.std.proofs.Common.{string_bytes, take}
use Rattle.elasticlunr_ranking.specs.Order.{told_hits}
use Rattle.elasticlunr_search.specs.Standing.{kept_contents}
use Rattle.elasticlunr_hits.specs.Lines.{AreJsonLines}
use Rattle.elasticlunr_hits.proofs.json_lines.json_lines.Given as goal

-- the lines of the hits so far
abbrev pub invariant-loop-hit : goal.invariant-loop-hit
invariant-loop-hit g l = AreJsonLines (kept_contents l.searcher) (told_hits (take l.hit-index l.hits)) (string_bytes l.lines)
