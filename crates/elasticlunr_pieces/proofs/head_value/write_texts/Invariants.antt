use Rattle.std.proofs.Common.{◌≡◌, ◌++◌, drop}
use Rattle.json.specs.Tree.{items_tokens}
use Rattle.serde_json.specs.Written.{items_outline}
use Rattle.elasticlunr_pieces.specs.Numbers.{told_texts}
use Rattle.elasticlunr_print.specs.Printed.{texts}
use Rattle.elasticlunr_pieces.proofs.head_value.write_texts.Given as goal

-- what was written, and the items that are left
abbrev pub invariant-loop-name : goal.invariant-loop-name
invariant-loop-name l =
    l.out ++ items_tokens (items_outline (texts (told_texts (drop l.name-index l.names))))
    ≡ l.initial.out ++ items_tokens (items_outline (texts (told_texts l.names)))
