use Rattle.std.proofs.Common.{◌≡◌, take}
use Rattle.std.specs.Str.{chars}
use Rattle.elasticlunr_text.specs.Text.{Bytes, is_listed}
use Rattle.elasticlunr_trie.specs.References.{texts_in}
use Rattle.elasticlunr_search.specs.Tries.{has_among, tables_of}
use Rattle.elasticlunr_search.proofs.tries.references_among.Given as goal

-- those that have a posting in one of the tries so far
abbrev pub invariant-loop-trie : goal.invariant-loop-trie
invariant-loop-trie l = (r : Bytes) → is_listed r (texts_in l.found) ≡ has_among (tables_of (take l.trie-index l.tries))
    (chars l.token) r
