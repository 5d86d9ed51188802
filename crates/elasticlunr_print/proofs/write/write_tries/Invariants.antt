use Rattle.std.proofs.Common.{◌≡◌, ◌++◌}
use Rattle.json.specs.Tree.{members_tokens}
use Rattle.serde_json.specs.Data.{Members}
use Rattle.serde_json.specs.Written.{members_outline}
use Rattle.elasticlunr_print.specs.Sorted.{AreMembersOf}
use Rattle.elasticlunr_print.proofs.write.write_tries.Given as goal

-- whatever members the tries that are left have, with them the members of all will be written
abbrev pub invariant-loop-name : goal.invariant-loop-name
invariant-loop-name g l =
    (rest : Members) → AreMembersOf l.name-iterator rest → (ms : Members) × AreMembersOf l.tries.entries ms
    × (g.W.Tokens.written l.out ++ members_tokens (members_outline rest)
    ≡ g.W.Tokens.written l.initial.out ++ members_tokens (members_outline ms))
