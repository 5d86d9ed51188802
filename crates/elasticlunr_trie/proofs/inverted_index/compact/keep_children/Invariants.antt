use Rattle.std.proofs.Common.{◌≡◌, take}
use Rattle.elasticlunr_trie.specs.Compact.{kept_children}
use Rattle.elasticlunr_trie.proofs.inverted_index.compact.keep_children.Given as goal

-- the marked ones of the children so far
abbrev pub invariant-loop-child : goal.invariant-loop-child
invariant-loop-child l = l.kept.items ≡ kept_children l.marks (take l.child-index l.children)
