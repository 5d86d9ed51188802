use Rattle.std.proofs.Common.{◌<◌, ◌↔◌, ℕ, [], get_or}
use Rattle.std.specs.Prelude.{IsTrue}
use Rattle.std.specs.BTreeSet.{contains}
use Rattle.std.specs.List.Sorted.{IsStrictlySortedBy}
use Rattle.std.specs.Ordering.{nat_cmp}
use Rattle.elasticlunr_error.specs.Text.{bytes_of, text_cmp}
use Rattle.elasticlunr_piece_head.specs.Choice.{IsNeeded}
use Rattle.elasticlunr_piece_head.proofs.head.PieceHead.pieces_for.Given as goal

-- the pieces that the tokens so far need
abbrev pub invariant-loop-token : goal.invariant-loop-token
invariant-loop-token l = IsStrictlySortedBy text_cmp (bytes_of l.self.tries.items) → (q : ℕ)
    → IsTrue (contains nat_cmp l.numbers q)
    ↔ ((k : ℕ) × (k < l.token-index)
    × IsNeeded (bytes_of l.self.tries.items) l.fn.expand (get_or (bytes_of l.fn.tokens) k []) q)
