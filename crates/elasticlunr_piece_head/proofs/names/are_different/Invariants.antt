use Rattle.std.proofs.Common.{◌≡◌, ◌≢◌, ◌<◌, ◌↔◌, ℕ, [], get_or}
use Rattle.std.specs.Prelude.{IsTrue}
use Rattle.std.specs.Borrow.{Bor}
use Rattle.std.specs.BTreeSet.{contains}
use Rattle.elasticlunr_error.specs.Text.{Bytes, bytes_of, text_cmp}
use Rattle.elasticlunr_piece_head.proofs.names.are_different.Given as goal

-- the names so far differ, and the set has them and no others
abbrev pub invariant-loop-name : goal.invariant-loop-name
invariant-loop-name l =
    ((a b : ℕ) → a < b → b < l.name-index → get_or (bytes_of l.names) a [] ≢ get_or (bytes_of l.names) b [])
    × ((q : Bor Bytes) → IsTrue (contains (λ x y. text_cmp x.now y.now) l.seen q)
    ↔ ((k : ℕ) × (k < l.name-index) × (get_or (bytes_of l.names) k [] ≡ q.now)))
