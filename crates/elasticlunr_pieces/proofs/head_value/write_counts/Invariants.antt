use Rattle.std.proofs.Common.{◌≡◌, ◌++◌, drop}
use Rattle.json.specs.Tree.{items_tokens}
use Rattle.serde_json.specs.Written.{items_outline}
use Rattle.elasticlunr_pieces.specs.Head.{counts}
use Rattle.elasticlunr_pieces.proofs.head_value.write_counts.Given as goal

-- what was written, and the items that are left
abbrev pub invariant-loop-number : goal.invariant-loop-number
invariant-loop-number l =
    l.out ++ items_tokens (items_outline (counts (drop l.number-index l.numbers)))
    ≡ l.initial.out ++ items_tokens (items_outline (counts l.numbers))
