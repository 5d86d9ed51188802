-- The table that numbered nodes represent, whose postings name their references by number; for
-- private clauses.
use Rattle.std.specs.Prelude.{◌≡◌, true, ℕ, zero, suc, ◌<◌, ◌≤◌, List, [], ◌∷◌, ◌++◌, map, length}
use Rattle.std.specs.Prelude.{slice_get, Option, Some, None, option_map, option_and_then}
use Rattle.std.specs.Str.{all_scalars}
use Rattle.std.specs.FinMap.{from_entries, empty}
use Rattle.elasticlunr_error.specs.Text.{Text, Bytes}
use Rattle.elasticlunr_trie_nodes.specs.Table.{Postings, Table}
use Rattle.elasticlunr_trie_nodes.specs.Pairs.{Pairs, value_of, IsStrictlySorted}
use Rattle.elasticlunr_trie_nodes.specs.Frequencies.{Frequencies}
use Rattle.elasticlunr_trie_nodes.specs.Names.{Names, AreNames, at}
use Rattle.elasticlunr_trie_nodes.specs.Nodes.{children_of, entries_of, postings_at, SameShape}
use Rattle.elasticlunr_trie_nodes.specs.Nodes.{AreListed}
use Rattle.elasticlunr_trie_nodes.specs.declared.nodes.Node.{Node}
use Rattle.elasticlunr_trie_nodes.specs.declared.nodes.Reference.{Reference}
use Rattle.elasticlunr_trie_nodes.specs.declared.nodes.Place.{Place}
use Rattle.elasticlunr_trie_nodes.specs.declared.nodes.Place.TheVariants.{Root, At}

-- the children stand under characters
abbrev pub AreCharacters : Pairs → Type 0
AreCharacters es = (c k : ℕ) → value_of es c ≡ Some k → all_scalars (c ∷ []) ≡ true

-- the pairs of a text of ts and what f gives for it
abbrev pub given : {X : Type 0} → Option X → Text → List (Text × X) → List (Text × X)
given None t rest = rest
given (Some x) t rest = (t, x) ∷ rest

abbrev pub pairs : {X : Type 0} → (Text → Option X) → List Text → List (Text × X)
pairs f [] = []
pairs f (t ∷ ts) = given (f t) t (pairs f ts)

-- the texts that begin with a child's character and go on with a text from its node
abbrev pub branches : (ℕ → List Text) → Pairs → List Text
branches from [] = []
branches from (e ∷ es) = map (λ t. e.0 ∷ t) (from e.1) ++ branches from es

-- how many nodes have a lower number than the children of the place may have
abbrev pub rank : Place → ℕ
rank Root = 0
rank (At k) = suc k

-- which child a place has under a character
abbrev pub Step : Type 0
Step = Place → ℕ → Option ℕ

module _ (step : Step) where
  -- where the path of the text t leads from the place p
  abbrev pub walk : Place → Text → Option Place
  walk p [] = Some p
  walk p (c ∷ cs) = option_and_then (λ k. walk (At k) cs) (step p c)

  -- Of n nodes, each child has a higher number than its parent. It is the child of no other place,
  -- and under no other character.
  pub record IsForest (n : ℕ) : Type 0 where
    pub higher : (p : Place) (c k : ℕ) → step p c ≡ Some k → rank p ≤ k
    pub is_node : (p : Place) (c k : ℕ) → step p c ≡ Some k → k < n
    pub one_parent : (p q : Place) (c d k : ℕ) → step p c ≡ Some k → step q d ≡ Some k → p ≡ q
    pub one_character : (p q : Place) (c d k : ℕ) → step p c ≡ Some k → step q d ≡ Some k → c ≡ d

  -- The node k is the child of exactly one place, the root or a node of a lower number, and under
  -- exactly one character.
  pub record HasOneParent (k : ℕ) : Type 0 where
    pub parent : Place
    pub character : ℕ
    pub is_child : step parent character ≡ Some k
    pub lower : rank parent ≤ k
    pub only : (q : Place) (d : ℕ) → step q d ≡ Some k → (q ≡ parent) × (d ≡ character)

  -- each of n nodes has one parent, so none stands alone
  abbrev pub HaveOneParent : ℕ → Type 0
  HaveOneParent n = (k : ℕ) → k < n → HasOneParent k

-- the postings that frequencies by number represent: those of each name
abbrev pub named : Names → Frequencies → Postings
named names P = from_entries (pairs (λ r. at names r P) names)

module _ (root : Pairs) (nodes : List Node) where
  abbrev pub children_at : Place → Pairs
  children_at Root = root
  children_at (At k) = children_of (slice_get nodes k)

  abbrev pub entries_at : Place → Frequencies
  entries_at Root = empty
  entries_at (At k) = entries_of (slice_get nodes k)

  -- the child under a character
  abbrev pub step_of : Step
  step_of p c = value_of (children_at p) c

  -- the postings of the text t, if it is known
  abbrev pub look : Names → Text → Option Postings
  look names t = option_map (λ p. named names (entries_at p)) (walk step_of Root t)

  -- the texts of at most n characters that lead somewhere from the place p
  abbrev pub paths : ℕ → Place → List Text
  paths zero p = [] ∷ []
  paths (suc n) p = [] ∷ branches (λ k. paths n (At k)) (children_at p)

  -- the table that the nodes represent, by the names of the references
  unfoldable pub table_of : Names → Table
  table_of names = from_entries (pairs (look names) (paths (length nodes) Root))

  -- The children of each place stand in the order of their characters.
  pub record IsTrie : Type 0 where
    pub in_order : (p : Place) → IsStrictlySorted (children_at p)
    pub forest : IsForest step_of (length nodes)
    pub characters : (p : Place) → AreCharacters (children_at p)

-- nodes below the root, each of which has one parent, whose postings are listed by their
-- references, whose names differ
pub record IsIndex (root : Pairs) (nodes : List Node) (names : Names) (references : List Reference)
    : Type 0 where
  pub trie : IsTrie root nodes
  pub parents : HaveOneParent (step_of root nodes) (length nodes)
  pub names_are : AreNames names
  pub listed : AreListed names references nodes

-- The nodes without the posting of the reference r at the text t.
pub record RemovesPosting (root : Pairs) (names : Names) (old new : List Node) (t : Text)
    (r : Bytes) : Type 0 where
  pub shape : SameShape old new
  pub gone : (k : ℕ) → walk (step_of root old) Root t ≡ Some (At k) → at names r (postings_at new k)
      ≡ None
  pub others : (k : ℕ) (q : Bytes) → ¬ ((walk (step_of root old) Root t ≡ Some (At k)) × (q ≡ r))
      → at names q (postings_at new k) ≡ at names q (postings_at old k)
