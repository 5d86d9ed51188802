use Rattle.std.proofs.Common.{◌≡◌, ◌<◌, ◌≤◌, ℕ, true, get_or, []}
use Rattle.std.specs.Prelude.{nat_eq}
use Rattle.std.specs.List.{starts_with}
use Rattle.elasticlunr_error.specs.Text.{bytes_of}
use Rattle.elasticlunr_piece_head.proofs.choice.end_of_longer.Given as goal

-- the texts so far begin so
abbrev pub invariant-loop-place : goal.invariant-loop-place
invariant-loop-place l = (k : ℕ) → l.from ≤ k → k < l.place
    → starts_with nat_eq (get_or (bytes_of l.texts) k []) l.beginning ≡ true
