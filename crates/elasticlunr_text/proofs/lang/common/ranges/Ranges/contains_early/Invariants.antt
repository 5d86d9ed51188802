use Rattle.std.proofs.Common.{ℕ, ◌<◌, get_or}
use Rattle.elasticlunr_text.proofs.lang.common.ranges.Ranges.contains_early.Given as goal

-- each range so far ends below the code point
abbrev pub invariant-loop-range : goal.invariant-loop-range
invariant-loop-range l = (k : ℕ) (r : ℕ × ℕ) → k < l.range-index → (get_or l.self.ranges.items k r).1 < l.code
