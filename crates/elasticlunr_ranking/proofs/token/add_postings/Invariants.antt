use Rattle.std.proofs.Common.{◌≡◌, take}
use Rattle.elasticlunr_error.specs.Text.{Bytes}
use Rattle.elasticlunr_ranking.specs.Fields.{field_of}
use Rattle.elasticlunr_ranking.specs.Held.{add_weight, held, told, under}
use Rattle.elasticlunr_ranking.proofs.token.add_postings.Given as goal

-- what the postings so far weigh is added
abbrev pub invariant-loop-reference : goal.invariant-loop-reference
invariant-loop-reference l = (r : Bytes) → held l.scores r
    ≡ under (add_weight (field_of l.field) l.idf l.penalty) r (held l.initial.scores r)
    (told (take l.reference-index l.postings))
