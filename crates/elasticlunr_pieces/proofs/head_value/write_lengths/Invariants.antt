use Rattle.std.proofs.Common.{◌≡◌, ◌++◌, drop, map, string_bytes}
use Rattle.json.specs.Tree.{items_tokens}
use Rattle.serde_json.specs.Written.{items_outline}
use Rattle.elasticlunr_pieces.specs.Head.{all_lengths}
use Rattle.elasticlunr_pieces.specs.Numbers.{told_texts}
use Rattle.elasticlunr_pieces.proofs.head_value.write_lengths.Given as goal

-- what was written, and the items that are left
abbrev pub invariant-loop-field : goal.invariant-loop-field
invariant-loop-field l =
    l.out ++ items_tokens (items_outline (all_lengths l.store (map string_bytes (drop l.field-index l.fields))
    (told_texts l.references)))
    ≡ l.initial.out ++ items_tokens (items_outline (all_lengths l.store (map string_bytes l.fields) (told_texts
    l.references)))
