use Rattle.std.proofs.Common.{◌≡◌, ◌++◌, drop}
use Rattle.json.specs.Tree.{items_tokens}
use Rattle.serde_json.specs.Written.{items_outline}
use Rattle.elasticlunr_pieces.specs.Head.{field_lengths}
use Rattle.elasticlunr_pieces.specs.Numbers.{told_texts}
use Rattle.elasticlunr_pieces.proofs.head_value.write_field_lengths.Given as goal

-- what was written, and the items that are left
abbrev pub invariant-loop-reference : goal.invariant-loop-reference
invariant-loop-reference l =
    l.out ++ items_tokens (items_outline (field_lengths l.store l.field (told_texts (drop l.reference-index
    l.references))))
    ≡ l.initial.out ++ items_tokens (items_outline (field_lengths l.store l.field (told_texts l.references)))
