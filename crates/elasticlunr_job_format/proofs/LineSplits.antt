-- A text of one line.
use Rattle.std.proofs.Common.{◌≡◌, ◌∷◌, [], All, false, ap}
use Rattle.std.specs.Bool.{◌==◌}
use Rattle.std.specs.List.{filter}
use Rattle.std.proofs.lemmas.List.Splits.{slice_split_none}
use Rattle.elasticlunr_error.specs.Text.{Bytes}
use Rattle.elasticlunr_job_format.specs.Lines.{filled_lines, is_filled, lines_of}

-- no line feed stands in it
pub split_none : (text : Bytes) → All (λ b. (b == 10) ≡ false) text → filled_lines text
    ≡ filter is_filled (text ∷ lines_of [])
split_none text none = ap (filter is_filled) (slice_split_none (λ b. b == 10) text none)
