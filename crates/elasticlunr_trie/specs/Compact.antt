-- Which nodes lead to a posting, and the nodes that are kept; for private clauses.
use Rattle.std.specs.Prelude.{◌≡◌, ◌↔◌, ℕ, zero, suc, ◌+◌, ◌<◌, Bool, false, IsTrue, List, [], ◌∷◌}
use Rattle.std.specs.Prelude.{length, slice_get, Some, unwrap_or, if◌then◌else◌}
use Rattle.elasticlunr_error.specs.Text.{Text}
use Rattle.elasticlunr_trie_nodes.specs.Frequencies.{Frequencies}
use Rattle.elasticlunr_trie_nodes.specs.Names.{Names}
use Rattle.elasticlunr_trie.specs.Children.{Children, child}
use Rattle.elasticlunr_trie_nodes.specs.Nodes.{children_of, entries_of}
use Rattle.elasticlunr_trie_nodes.specs.Trie.{entries_at, step_of, walk, named}
use Rattle.std.specs.FinMap.{get}
use Rattle.elasticlunr_trie_nodes.specs.declared.nodes.Node.{Node}
use Rattle.elasticlunr_trie_nodes.specs.declared.nodes.Place.{Place}
use Rattle.elasticlunr_trie_nodes.specs.declared.nodes.Place.TheVariants.{At}

-- a path from the node k leads to a place with a posting
pub record Bears (nodes : List Node) (k : ℕ) : Type 0 where
  pub text : Text
  pub place : Place
  pub leads : walk (step_of [] nodes) (At k) text ≡ Some place
  pub reference : ℕ
  pub frequency : ℕ
  pub own : get (entries_at [] nodes place) reference ≡ Some frequency

-- the mark of the node k
abbrev pub is_marked : List Bool → ℕ → Bool
is_marked marks k = unwrap_or (slice_get marks k) false

-- a node is marked exactly if a path from it leads to a posting
abbrev pub MarksBearing : List Node → List Bool → Type 0
MarksBearing nodes marks = (k : ℕ) → k < length nodes → IsTrue (is_marked marks k) ↔ Bears nodes k

-- one of the children is marked
abbrev pub HasMarked : List Bool → Children → Type 0
HasMarked marks children = (c : ℕ) × (k : ℕ) × (child children c ≡ Some k)
    × IsTrue (is_marked marks k)

-- a reference has a frequency
abbrev pub HasFrequency : Frequencies → Type 0
HasFrequency P = (n : ℕ) × (f : ℕ) × (get P n ≡ Some f)

-- how many of the nodes before k are marked
abbrev pub new_number : List Bool → ℕ → ℕ
new_number marks zero = 0
new_number marks (suc k) = new_number marks k + (if is_marked marks k then 1 else 0)

-- each marked node has the number of marked nodes before it
pub record AreNumbers (marks : List Bool) (numbers : List ℕ) : Type 0 where
  pub count : length numbers ≡ length marks
  pub each : (k : ℕ) → k < length marks → slice_get numbers k ≡ Some (new_number marks k)

-- the marked children, under their new numbers
abbrev pub kept_children : List Bool → Children → Children
kept_children marks [] = []
kept_children marks (e ∷ es) = if is_marked marks e.1 then (e.0, new_number marks e.1)
    ∷ kept_children marks es else kept_children marks es

-- the nodes below i that are marked, in order, each with its marked children and its postings under
-- their names
pub record KeepsBelow (marks : List Bool) (names : Names) (nodes : List Node) (names2 : Names)
    (kept : List Node) (i : ℕ) : Type 0 where
  pub count : length kept ≡ new_number marks i
  pub children : (k : ℕ) → k < i → IsTrue (is_marked marks k)
      → children_of (slice_get kept (new_number marks k))
      ≡ kept_children marks (children_of (slice_get nodes k))
  pub entries : (k : ℕ) → k < i → IsTrue (is_marked marks k)
      → named names2 (entries_of (slice_get kept (new_number marks k)))
      ≡ named names (entries_of (slice_get nodes k))

-- the marked ones of all nodes, in order, each with its marked children and its postings under
-- their names
abbrev pub KeepsMarked : (marks : List Bool) (names : Names) (nodes : List Node) (names2 : Names)
    (kept : List Node) → Type 0
KeepsMarked marks names nodes names2 kept = KeepsBelow marks names nodes names2 kept (length nodes)
