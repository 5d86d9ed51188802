-- Where a list keeps its items; for private clauses.
use Rattle.std.specs.Prelude.{ℕ, List, [], ◌∷◌}
use Rattle.elasticlunr_trie_nodes.specs.declared.inline_list.Kept.{Kept}
use Rattle.elasticlunr_trie_nodes.specs.declared.inline_list.Kept.TheVariants.{None, One, Many}
use Rattle.elasticlunr_trie_nodes.specs.declared.posting_list.KeptPostings.{KeptPostings}
use Rattle.elasticlunr_trie_nodes.specs.declared.number_list.Numbers.{Numbers}
use Rattle.elasticlunr_trie_nodes.specs.declared.number_list.Numbers.TheVariants.{Short, Long}

module _ {T : Type 0} where
  abbrev pub kept_items : Kept T → List T
  kept_items None = []
  kept_items (One x) = x ∷ []
  kept_items (Many b) = b.value.items

abbrev pub numbers_in : Numbers → List ℕ
numbers_in (Short v) = v.items
numbers_in (Long v) = v.items

abbrev pub postings_in : KeptPostings → List (ℕ × ℕ)
postings_in KeptPostings.None = []
postings_in (KeptPostings.One x) = x ∷ []
postings_in (KeptPostings.Many b) = b.value.items
postings_in (KeptPostings.Long b) = b.value.items
