use Rattle.std.proofs.Common.{◌≡◌, ◌++◌, drop}
use Rattle.json.specs.Tree.{items_tokens}
use Rattle.serde_json.specs.Written.{items_outline}
use Rattle.elasticlunr_pieces.specs.Entries.{field_values}
use Rattle.elasticlunr_pieces.specs.Numbers.{told_texts}
use Rattle.elasticlunr_pieces.proofs.tries.token_text.Given as goal

-- what was written, and the tries that are left
abbrev pub invariant-loop-trie : goal.invariant-loop-trie
invariant-loop-trie l =
    l.out ++ items_tokens (items_outline (field_values (told_texts l.numbers.references.items)
    (drop l.trie-index l.tries) l.token))
    ≡ l.initial.out ++ items_tokens (items_outline (field_values (told_texts l.numbers.references.items) l.tries
    l.token))
