use Rattle.std.proofs.Common.{◌≡◌, List, take}
use Rattle.elasticlunr_error.specs.Text.{Bytes, Text, texts_of}
use Rattle.elasticlunr_ranking.specs.Fields.{field_of}
use Rattle.elasticlunr_ranking.specs.Held.{held}
use Rattle.elasticlunr_ranking.specs.Tallies.{tally_of}
use Rattle.elasticlunr_ranking.specs.Weights.{AreLookedUp}
use Rattle.elasticlunr_ranking.proofs.tally.field_tallies.Given as goal

-- the tallies after the tokens so far
abbrev pub invariant-loop-token : goal.invariant-loop-token
invariant-loop-token l = (done : List (Text × List Text))
    × AreLookedUp (field_of l.field) (texts_of (take l.token-index l.tokens)) done
    × ((r : Bytes) → held l.tallies r ≡ tally_of (field_of l.field) done r)
