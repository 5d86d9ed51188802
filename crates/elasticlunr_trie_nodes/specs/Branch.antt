-- A branch of new nodes below a place; for private clauses.
use Rattle.std.specs.Prelude.{◌≡◌, ◌≢◌, ℕ, ◌<◌, ◌≤◌, ◌+◌, List, [], ◌∷◌, ◌++◌, length, slice_get}
use Rattle.std.specs.Prelude.{slice_index, None, Some}
use Rattle.std.specs.List.{insert}
use Rattle.std.specs.FinMap as map
use Rattle.elasticlunr_error.specs.Text.{Text}
use Rattle.elasticlunr_trie_nodes.specs.Pairs.{Pairs, IsGapFor}
use Rattle.elasticlunr_trie_nodes.specs.Nodes.{children_of, entries_of}
use Rattle.elasticlunr_trie_nodes.specs.Trie.{Step, rank, walk, children_at, entries_at}
use Rattle.elasticlunr_trie_nodes.specs.declared.nodes.Node.{Node}
use Rattle.elasticlunr_trie_nodes.specs.declared.nodes.Place.{Place}
use Rattle.elasticlunr_trie_nodes.specs.declared.nodes.Place.TheVariants.{Root}

-- Nodes for a path under the characters of cs: each has one child, the first of the number n, and
-- no entries.
pub record IsInner (n : ℕ) (cs : Text) (front : List Node) : Type 0 where
  pub count : length front ≡ length cs
  pub children : (j : ℕ) → j < length cs → children_of (slice_get front j)
      ≡ (slice_index cs j, n + j) ∷ []
  pub no_entries : (j : ℕ) → entries_of (slice_get front j) ≡ map.empty

-- and a node at the end, which has the posting m of the reference r alone
pub record IsBranch (n : ℕ) (cs : Text) (r m : ℕ) (branch : List Node) : Type 0 where
  pub front : List Node
  pub leaf : Node
  pub split : branch ≡ front ++ leaf ∷ []
  pub inner : IsInner n cs front
  pub no_children : leaf.children.items ≡ []
  pub posting : leaf.postings ≡ map.insert map.empty r m

-- The old nodes with the branch after them. The old nodes have the entries that they had, and the
-- children, but for the node k.
pub record HasBranch (old new branch : List Node) : Type 0 where
  pub count : length new ≡ length old + length branch
  pub fresh : (j : ℕ) → slice_get new (length old + j) ≡ slice_get branch j
  pub entries : (k : ℕ) → k < length old → entries_of (slice_get new k)
      ≡ entries_of (slice_get old k)

-- the list of children, with the number n for the character c in its place
abbrev pub GainsChild : Pairs → Pairs → ℕ → ℕ → Type 0
GainsChild old new c n = (i : ℕ) × IsGapFor old c i × (new ≡ insert old i (c, n))

-- the node k has the next new node as a child under the character c besides those that it had
abbrev pub GainsNextChild : List Node → List Node → ℕ → ℕ → Type 0
GainsNextChild old new k c = GainsChild (children_of (slice_get old k))
    (children_of (slice_get new k)) c (length old)

-- the old nodes but k have the children that they had
abbrev pub KeepsOtherChildren : List Node → List Node → ℕ → Type 0
KeepsOtherChildren old new k = (j : ℕ) → j < length old → j ≢ k → children_of (slice_get new j)
    ≡ children_of (slice_get old j)

-- where the longest known beginning of a token leads, and what follows it
pub record IsLocated (step : Step) (token : Text) (place : Place) (rest : Text) : Type 0 where
  pub known : Text
  pub split : token ≡ known ++ rest
  pub leads : walk step Root known ≡ Some place
  pub ends : (c : ℕ) (cs : Text) → rest ≡ c ∷ cs → step place c ≡ None

-- each place has the children and the entries that it had
pub record SameTrie (root : Pairs) (nodes : List Node) (root2 : Pairs) (nodes2 : List Node) : Type 0
  where
    pub count : length nodes2 ≡ length nodes
    pub children : (q : Place) → children_at root2 nodes2 q ≡ children_at root nodes q
    pub entries : (q : Place) → entries_at root2 nodes2 q ≡ entries_at root nodes q

-- The nodes with a branch after them, whose first node is the child of the place p under the
-- character c. Nothing else changes.
pub record Grows (root : Pairs) (nodes : List Node) (root2 : Pairs) (nodes2 : List Node) (p : Place)
    (c : ℕ) (branch : List Node) : Type 0 where
  pub count : length nodes2 ≡ length nodes + length branch
  pub fresh : (j : ℕ) → slice_get nodes2 (length nodes + j) ≡ slice_get branch j
  pub gains : GainsChild (children_at root nodes p) (children_at root2 nodes2 p) c (length nodes)
  pub children : (q : Place) → q ≢ p → rank q ≤ length nodes → children_at root2 nodes2 q
      ≡ children_at root nodes q
  pub entries : (q : Place) → rank q ≤ length nodes → entries_at root2 nodes2 q
      ≡ entries_at root nodes q

-- the place is the root or a node
abbrev pub IsPlace : List Node → Place → Type 0
IsPlace nodes p = rank p ≤ length nodes
