use Rattle.std.proofs.Common.{◌≡◌, List, map, take}
use Rattle.elasticlunr_error.specs.Text.{Bytes, Text, texts_of}
use Rattle.elasticlunr_ranking.specs.Fields.{Field, field_of}
use Rattle.elasticlunr_ranking.specs.Held.{held}
use Rattle.elasticlunr_ranking.specs.Weights.{AreAllLookedUp, total_score}
use Rattle.elasticlunr_ranking.proofs.total.total_scores.Given as goal

-- the scores in the fields so far
abbrev pub invariant-loop-field : goal.invariant-loop-field
invariant-loop-field l = (done : List (Field × List (Text × List Text)))
    × AreAllLookedUp (map field_of (take l.field-index l.fields)) (texts_of l.tokens) done
    × ((r : Bytes) → held l.totals r ≡ total_score done r)
