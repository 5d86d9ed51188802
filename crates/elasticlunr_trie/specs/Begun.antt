-- Changes of which only the first are made.
use Rattle.std.specs.Prelude.{ℕ, List, take}
use Rattle.elasticlunr_trie_nodes.specs.Table.{Table, Change, AreChanged}

-- so many of the changes, from the first on, lead from old to new; the others are not made
abbrev pub AreBegun : List Change → Table → Table → Type 0
AreBegun changes old new = (n : ℕ) × AreChanged (take n changes) old new
