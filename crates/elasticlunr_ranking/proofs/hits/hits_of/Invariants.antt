use Rattle.std.proofs.Common.{◌≡◌, map, take}
use Rattle.elasticlunr_ranking.specs.Order.{told_hits}
use Rattle.elasticlunr_ranking.specs.Keys.{told_key}
use Rattle.elasticlunr_ranking.proofs.hits.hits_of.Given as goal

abbrev pub invariant-loop-score : goal.invariant-loop-score
invariant-loop-score l = told_hits l.hits.items ≡ map told_key (take l.score-index l.keys)
