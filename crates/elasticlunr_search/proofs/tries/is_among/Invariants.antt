use Rattle.std.proofs.Common.{◌≡◌, false, take}
use Rattle.std.specs.Str.{chars}
use Rattle.elasticlunr_search.specs.Tries.{has_among, tables_of}
use Rattle.elasticlunr_search.proofs.tries.is_among.Given as goal

-- none of the tries so far has it
abbrev pub invariant-loop-trie : goal.invariant-loop-trie
invariant-loop-trie l = has_among (tables_of (take l.trie-index l.tries)) (chars l.token) l.reference ≡ false
