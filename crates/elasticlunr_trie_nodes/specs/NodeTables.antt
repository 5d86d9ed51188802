-- The table of the nodes that a trie keeps, and what is done to it; for private clauses.
use Rattle.std.specs.Prelude.{◌≡◌, ℕ, ◌++◌, List, Option, Some, Vec}
use Rattle.std.specs.Borrow.{Bor}
use Rattle.std.specs.FinMap.{empty}
use Rattle.std.specs.Option.{option_map_or}
use Rattle.std.specs.declared.alloc.Global.{Global}
use Rattle.elasticlunr_error.specs.Text.{Text, Bytes}
use Rattle.elasticlunr_trie_nodes.specs.Table.{Table, AddsToken, postings}
use Rattle.elasticlunr_trie_nodes.specs.Pairs.{Pairs}
use Rattle.elasticlunr_trie_nodes.specs.Frequencies.{Frequencies}
use Rattle.elasticlunr_trie_nodes.specs.Names.{Names}
use Rattle.elasticlunr_trie_nodes.specs.Trie.{named, step_of, table_of, walk}
use Rattle.elasticlunr_trie_nodes.specs.declared.nodes.Node.{Node}
use Rattle.elasticlunr_trie_nodes.specs.declared.nodes.Place.{Place}
use Rattle.elasticlunr_trie_nodes.specs.declared.nodes.Place.TheVariants.{Root}

-- the table of these nodes
abbrev pub node_table : Vec (ℕ × ℕ) Global → Vec Node Global → Names → Table
node_table root nodes names = table_of root.items nodes.items names

-- whatever text leads to the place, the table gains the posting n of the reference r at that text
-- and rest
abbrev pub AddsBelow : Place → (root : Vec (ℕ × ℕ) Global) (nodes : Vec Node Global) → Table → Table
    → Text → Bytes → ℕ → Type 0
AddsBelow place root nodes old new rest r n =
    (front : Text) → walk (step_of root.items nodes.items) Root front ≡ Some place
    → AddsToken old new (front ++ rest) r n

-- the frequencies that were found, none if nothing was
abbrev pub found_frequencies : Option (Bor Frequencies) → Frequencies
found_frequencies found = option_map_or (λ p. p.now) found empty

-- whatever names the references have, these are the postings of the text
abbrev pub ArePostingsAt : Pairs → List Node → Text → Frequencies → Type 0
ArePostingsAt root nodes text P = (names : Names) → postings (table_of root nodes names) text
    ≡ named names P
