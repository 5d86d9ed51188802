use Rattle.std.proofs.Common.{◌≡◌, ◌++◌, map, drop, string_bytes}
use Rattle.json.specs.Tree.{items_tokens}
use Rattle.serde_json.specs.Written.{items_outline}
use Rattle.elasticlunr_print.specs.Printed.{texts}
use Rattle.elasticlunr_print.proofs.write.write_names.Given as goal

-- what was written, and the names that are left
abbrev pub invariant-loop-name : goal.invariant-loop-name
invariant-loop-name g l =
    g.W.Tokens.written l.out ++ items_tokens (items_outline (texts (map string_bytes (drop l.name-index l.names))))
    ≡ g.W.Tokens.written l.initial.out ++ items_tokens (items_outline (texts (map string_bytes l.names)))
