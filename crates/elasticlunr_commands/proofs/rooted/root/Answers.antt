use Rattle.std.proofs.Common.{arith, ◌*◌, ◌^◌, ◌≤◌, subst}
use Rattle.elasticlunr_commands.proofs.rooted.root.Goals as goal

pub returns-in_default : goal.returns-in_default
returns-in_default c = record {
  fits = subst (λ m. c.isqrt-in_default.result * c.isqrt-in_default.result ≤ m * 10 ^ 12) c.from.ensures
      c.isqrt-in_default.ensures.square_le;
  greatest = λ s below. grind arith;
}
