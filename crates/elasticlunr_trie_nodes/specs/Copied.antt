-- What a copy of the postings of a text represents.
use Rattle.std.specs.Prelude.{ℕ, Option, option_map, String}
use Rattle.std.specs.BTreeMap.{BTreeMap}
use Rattle.std.specs.declared.alloc.Global.{Global}
use Rattle.elasticlunr_trie_nodes.specs.Table.{Postings, postings_of}

-- the postings of a map, if there is one
abbrev pub copied_postings : Option (BTreeMap (String Global) ℕ) → Option Postings
copied_postings docs = option_map (λ m. postings_of m.entries) docs
