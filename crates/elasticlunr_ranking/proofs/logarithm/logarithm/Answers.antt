use Rattle.std.proofs.Common.{ℕ, ◌%◌, ◌≤◌, ◌+◌, arith}
use Rattle.std.specs.Float.{binary64}
use Rattle.std.specs.Float.Ieee.{to_bits}
use Rattle.std.proofs.lemmas.Float.{not_nan_f64_bits}
use Rattle.elasticlunr_ranking.proofs.logarithm.logarithm.Goals as goal

below : (b bits : ℕ) → bits ≤ 0x3ff0_0000_0000_0000
    → (b % 0x10_0000_0000_0000 + bits) % 0x8000_0000_0000_0000 ≤ 0x7ff0_0000_0000_0000
below b bits h = omega arith

pub float_from_bits-fraction : goal.float_from_bits-fraction
float_from_bits-fraction c = not_nan_f64_bits _
    (below (to_bits binary64 c.args.x) 0x3ff0_0000_0000_0000 (omega arith))

pub float_from_bits-fraction-else-high-lt-HALVED : goal.float_from_bits-fraction-else-high-lt-HALVED
float_from_bits-fraction-else-high-lt-HALVED c = not_nan_f64_bits _
    (below (to_bits binary64 c.args.x) 0x3fe0_0000_0000_0000 (omega arith))
