use Rattle.std.proofs.Common.{◌≡◌, All, map, take}
use Rattle.elasticlunr_ranking.specs.Held.{told}
use Rattle.elasticlunr_ranking.specs.Keys.{IsKey, told_key}
use Rattle.elasticlunr_ranking.proofs.hits.keys_of.Given as goal

abbrev pub invariant-loop-reference : goal.invariant-loop-reference
invariant-loop-reference l = record {
  told : map told_key l.keys.items ≡ told (take l.reference-index l.scores);
  keys : All IsKey l.keys.items;
}
