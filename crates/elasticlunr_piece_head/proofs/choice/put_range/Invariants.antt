use Rattle.std.proofs.Common.{◌≡◌, ◌<◌, ◌≤◌, ◌↔◌, ◌⊎◌, ℕ}
use Rattle.std.specs.Prelude.{IsTrue}
use Rattle.std.specs.BTreeSet.{contains}
use Rattle.std.specs.Ordering.{nat_cmp}
use Rattle.elasticlunr_piece_head.proofs.choice.put_range.Given as goal

-- the numbers so far are there
abbrev pub invariant-loop-number : goal.invariant-loop-number
invariant-loop-number l = ((n : ℕ) → IsTrue (contains nat_cmp l.numbers n)
    ↔ (IsTrue (contains nat_cmp l.fn.numbers n) ⊎ ((l.fn.range.from ≤ n) × (n < l.number))))
    × ((l.number ≡ l.fn.range.from) ⊎ (l.number ≤ l.fn.range.end))
