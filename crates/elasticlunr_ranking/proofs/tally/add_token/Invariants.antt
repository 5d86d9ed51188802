use Rattle.std.proofs.Common.{◌≡◌, take}
use Rattle.std.specs.Str.{chars}
use Rattle.elasticlunr_error.specs.Text.{Bytes}
use Rattle.elasticlunr_ranking.specs.Fields.{field_of}
use Rattle.elasticlunr_ranking.specs.Held.{held, told, under}
use Rattle.elasticlunr_ranking.specs.Tallies.{add_tally}
use Rattle.elasticlunr_ranking.proofs.tally.add_token.Given as goal

-- the scores so far are counted
abbrev pub invariant-loop-reference : goal.invariant-loop-reference
invariant-loop-reference l = (r : Bytes) → held l.tallies r
    ≡ under (add_tally (field_of l.field) (chars l.token)) r (held l.initial.tallies r)
    (told (take l.reference-index l.scores))
