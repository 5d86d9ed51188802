use Rattle.std.proofs.Common.{◌≡◌, ◌++◌, drop}
use Rattle.elasticlunr_trie_nodes.specs.Names.{names_of}
use Rattle.elasticlunr_trie_nodes.proofs.names.copies.Given as goal

-- the names from here on come after those that were copied
abbrev pub invariant-loop-string : goal.invariant-loop-string
invariant-loop-string l = names_of l.copies.items ++ names_of (drop l.string-index l.strings) ≡ names_of l.strings
