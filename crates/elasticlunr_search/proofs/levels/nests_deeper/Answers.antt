use Rattle.std.proofs.Common.{refl, subst}
use Rattle.std.specs.Prelude.{◌<◌}
use Rattle.json.specs.Reads.{token_of}
use Rattle.serde_json.specs.Read.{max_depth}
use Rattle.elasticlunr_search.proofs.Deeper.{opens_deeper}
use Rattle.elasticlunr_search.proofs.levels.nests_deeper.Goals as goal

pub returns-then-depth-gt-MAX_DEPTH : goal.returns-then-depth-gt-MAX_DEPTH
returns-then-depth-gt-MAX_DEPTH c = (
  λ yes. c.tokens.invariant.1.1
      (opens_deeper max_depth c.tokens.depth (token_of c.in-Some.token) c.tokens.reader _ c.in-Some.ensures.value
      (subst (λ n. max_depth < n) c.depth_after-depth.ensures c.if-depth-gt-MAX_DEPTH.true)),
  λ deep. refl,
)
