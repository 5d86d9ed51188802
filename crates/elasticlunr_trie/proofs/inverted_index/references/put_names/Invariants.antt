use Rattle.std.proofs.Common.{◌≡◌, ◌||◌, take}
use Rattle.std.specs.FinMap.{entries}
use Rattle.elasticlunr_error.specs.Text.{Bytes, is_listed}
use Rattle.elasticlunr_trie.specs.References.{texts_in}
use Rattle.elasticlunr_trie.proofs.References.{names_among}
use Rattle.elasticlunr_trie.proofs.inverted_index.references.put_names.Given as goal

-- the names so far stand in the set, and what stood there
abbrev pub invariant-loop-i : goal.invariant-loop-i
invariant-loop-i l = (r : Bytes) → is_listed r (texts_in l.found)
    ≡ (is_listed r (texts_in l.fn.found) || is_listed r (names_among l.names (take l.i (entries l.postings))))
