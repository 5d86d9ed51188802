use Rattle.std.proofs.Common.{◌≡◌, ◌++◌, drop}
use Rattle.json.specs.Tree.{items_tokens}
use Rattle.serde_json.specs.Written.{items_outline}
use Rattle.elasticlunr_trie.specs.Tokens.{told_postings}
use Rattle.elasticlunr_pieces.specs.Entries.{numbered}
use Rattle.elasticlunr_pieces.specs.Numbers.{told_texts}
use Rattle.elasticlunr_pieces.proofs.tries.write_postings.Given as goal

-- what was written, and the postings that are left
abbrev pub invariant-loop-posting : goal.invariant-loop-posting
invariant-loop-posting l =
    l.out ++ items_tokens (items_outline (numbered (told_texts l.numbers.references.items)
    (told_postings (drop l.posting-index l.posting-items))))
    ≡ l.initial.out ++ items_tokens (items_outline (numbered (told_texts l.numbers.references.items)
    (told_postings l.posting-items)))
