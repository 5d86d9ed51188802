-- The children of a place, as pairs of a character and a number of a node; for private clauses.
use Rattle.std.specs.Prelude.{ℕ, Option}
use Rattle.elasticlunr_trie_nodes.specs.Pairs.{Pairs, value_of}

-- a character, then the number of the node under it
abbrev pub Children : Type 0
Children = Pairs

-- the node under a character
abbrev pub child : Children → ℕ → Option ℕ
child = value_of
