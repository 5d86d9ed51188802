-- What is known of a document after some tokens.
use Rattle.std.specs.Prelude.{ℕ, ◌+◌, ◌-◌, ◌^◌, Bool, cond, List, Option, Some, is_some, option_map}
use Rattle.std.specs.Prelude.{unwrap_or, min, count_by}
use Rattle.std.specs.Float.{Float}
use Rattle.elasticlunr_error.specs.Text.{Text, Bytes}
use Rattle.elasticlunr_trie.specs.Table.{posting}
use Rattle.elasticlunr_ranking.specs.Doubles.{◌+ᵈ◌}
use Rattle.elasticlunr_ranking.specs.Fields.{Field}
use Rattle.elasticlunr_ranking.specs.Weights.{added, counted, is_found, is_found_itself}
use Rattle.elasticlunr_ranking.specs.Weights.{tokens_score}
use Rattle.elasticlunr_ranking.specs.Numbers.{zero_double}
use Rattle.elasticlunr_ranking.specs.declared.tally.Tally.{Tally}

abbrev pub one_more : ℕ → ℕ
one_more n = min (n + 1) (2 ^ 64 - 1)

abbrev pub no_tally : Tally
no_tally = record { score = zero_double; found = 0; exact = 0 }

-- a tally after one token more
abbrev pub tallied : Option Tally → Float → Bool → Tally
tallied before score exact =
    let tally = unwrap_or before no_tally in
    record {
      score = tally.score +ᵈ score;
      found = one_more tally.found;
      exact = cond exact (one_more tally.exact) tally.exact;
    }

abbrev pub add_tally : Field → Text → Bytes → Option Tally → Float → Option Tally
add_tally field token reference before score =
    Some (tallied before score (is_some (posting field.table token reference)))

-- the score that a tally gives
abbrev pub tally_score : Field → (tokens : ℕ) → Tally → Option Float
tally_score field tokens tally = counted field tokens tally.found tally.exact tally.score

abbrev pub add_score : Field → (tokens : ℕ) → Bytes → Option Float → Tally → Option Float
add_score field tokens reference before tally = added before (tally_score field tokens tally)

-- the tally of a document after these tokens
abbrev pub tally_of : Field → List (Text × List Text) → Bytes → Option Tally
tally_of field looked_up reference =
    option_map (λ score. record {
      score = score;
      found = count_by (is_found field reference) looked_up;
      exact = count_by (is_found_itself field reference) looked_up;
    }) (tokens_score field looked_up reference)
