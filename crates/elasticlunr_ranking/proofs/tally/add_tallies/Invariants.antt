use Rattle.std.proofs.Common.{◌≡◌, take}
use Rattle.elasticlunr_error.specs.Text.{Bytes}
use Rattle.elasticlunr_ranking.specs.Fields.{field_of}
use Rattle.elasticlunr_ranking.specs.Held.{held, told, under}
use Rattle.elasticlunr_ranking.specs.Tallies.{add_score}
use Rattle.elasticlunr_ranking.proofs.tally.add_tallies.Given as goal

-- the scores so far are added
abbrev pub invariant-loop-reference : goal.invariant-loop-reference
invariant-loop-reference l = (r : Bytes) → held l.totals r
    ≡ under (add_score (field_of l.field) l.tokens) r (held l.initial.totals r)
    (told (take l.reference-index l.tallies))
