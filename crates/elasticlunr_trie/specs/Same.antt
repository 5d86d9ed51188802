-- When two places have the same texts below; for private clauses.
use Rattle.std.specs.Prelude.{◌≡◌, ℕ, List, ◌∷◌, Option, option_map}
use Rattle.elasticlunr_error.specs.Text.{Text}
use Rattle.elasticlunr_trie_nodes.specs.Table.{Postings}
use Rattle.elasticlunr_trie_nodes.specs.Names.{Names}
use Rattle.elasticlunr_trie.specs.Children.{Children}
use Rattle.elasticlunr_trie_nodes.specs.Trie.{named, walk, step_of, entries_at}
use Rattle.elasticlunr_trie_nodes.specs.declared.nodes.Node.{Node}
use Rattle.elasticlunr_trie_nodes.specs.declared.nodes.Place.{Place}

-- the postings of the text that goes on with t from the place p, if it is known
abbrev pub look_from : Names → Children → List Node → Place → Text → Option Postings
look_from names root nodes p t = option_map (λ q. named names (entries_at root nodes q))
    (walk (step_of root nodes) p t)

-- from both places the same longer texts are known, with the same postings
abbrev pub IsSameBelow : Names → Children → List Node → Place → Names → Children → List Node → Place
    → Type 0
IsSameBelow names root nodes p names2 root2 nodes2 q = (c : ℕ) (t : Text)
    → look_from names root nodes p (c ∷ t) ≡ look_from names2 root2 nodes2 q (c ∷ t)
