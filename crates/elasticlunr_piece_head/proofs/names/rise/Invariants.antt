use Rattle.std.proofs.Common.{◌≡◌, ◌<◌, ◌+◌, ℕ, get_or, [], Less}
use Rattle.elasticlunr_error.specs.Text.{bytes_of, text_cmp}
use Rattle.elasticlunr_piece_head.proofs.names.rise.Given as goal

-- the texts so far rise
abbrev pub invariant-loop-place : goal.invariant-loop-place
invariant-loop-place l = (k : ℕ) → k + 1 < l.place
    → text_cmp (get_or (bytes_of l.texts) k []) (get_or (bytes_of l.texts) (k + 1) []) ≡ Less
