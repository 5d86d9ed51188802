-- What the postings of a node represent.
use Rattle.std.specs.Prelude.{ℕ}
use Rattle.std.specs.Ordering.{nat_cmp}
use Rattle.std.specs.FinMap.{FinMap, from_sorted}
use Rattle.elasticlunr_trie_nodes.specs.Pairs.{Pairs}

-- the frequency of each reference that has a posting, under its number
abbrev pub Frequencies : Type 0
Frequencies = FinMap nat_cmp ℕ

-- what pairs in the order of their numbers represent
abbrev pub frequencies_of : Pairs → Frequencies
frequencies_of l = from_sorted l
