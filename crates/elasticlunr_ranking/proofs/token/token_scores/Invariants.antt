use Rattle.std.proofs.Common.{◌≡◌, map, take}
use Rattle.std.specs.Str.{chars}
use Rattle.elasticlunr_error.specs.Text.{Bytes, texts_of}
use Rattle.elasticlunr_ranking.specs.Fields.{field_of}
use Rattle.elasticlunr_ranking.specs.Held.{held}
use Rattle.elasticlunr_ranking.specs.Weights.{part, sum_of}
use Rattle.elasticlunr_ranking.proofs.token.token_scores.Given as goal

-- the sum of what the words so far weigh
abbrev pub invariant-loop-word : goal.invariant-loop-word
invariant-loop-word l = (r : Bytes) → held l.scores r
    ≡ sum_of (map (λ word. part (field_of l.field) (chars l.token) word r) (texts_of (take l.word-index l.word-items)))
