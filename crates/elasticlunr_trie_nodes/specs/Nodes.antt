-- Numbered nodes whose postings name their references by number; for private clauses.
use Rattle.std.specs.Prelude.{◌≡◌, ◌≢◌, ◌<◌, ◌^◌, ℕ, Bool, false, ◌||◌, ◌==◌, IsTrue, IsFalse, List}
use Rattle.std.specs.Prelude.{[], ◌∷◌, length, slice_get, slice_index, SomeIndex, Option, Some}
use Rattle.std.specs.Prelude.{None}
use Rattle.std.specs.List.{remove as without}
use Rattle.std.specs.FinMap.{get, empty, insert, remove}
use Rattle.elasticlunr_trie_nodes.specs.Pairs.{Pairs}
use Rattle.elasticlunr_trie_nodes.specs.Frequencies.{Frequencies}
use Rattle.elasticlunr_trie_nodes.specs.Names.{Names, AreNumbered, at}
use Rattle.elasticlunr_error.specs.Text.{Bytes}
use Rattle.elasticlunr_trie_nodes.specs.declared.nodes.Node.{Node}
use Rattle.elasticlunr_trie_nodes.specs.declared.nodes.Reference.{Reference}

abbrev pub children_of : Option Node → Pairs
children_of None = []
children_of (Some n) = n.children.items

abbrev pub entries_of : Option Node → Frequencies
entries_of None = empty
entries_of (Some n) = n.postings

abbrev pub list_of : Option Reference → List ℕ
list_of None = []
list_of (Some e) = e.nodes.items

-- the postings of the node k
abbrev pub postings_at : List Node → ℕ → Frequencies
postings_at nodes k = entries_of (slice_get nodes k)

-- the nodes that the reference n lists
abbrev pub list_at : List Reference → ℕ → List ℕ
list_at references n = list_of (slice_get references n)

-- the list has the node k
abbrev pub has : List ℕ → ℕ → Bool
has [] k = false
has (j ∷ js) k = (j == k) || has js k

-- ks is the list js without one k, or js where it has none
pub record LosesOne (js ks : List ℕ) (k : ℕ) : Type 0 where
  pub one : IsTrue (has js k) → SomeIndex js (λ i. (slice_index js i ≡ k) × (ks ≡ without js i))
  pub none : IsFalse (has js k) → ks ≡ js

-- the reference n lists a node k less, and the others what they did
pub record LosesNode (old new : List Reference) (n k : ℕ) : Type 0 where
  pub here : LosesOne (list_at old n) (list_at new n) k
  pub elsewhere : (m : ℕ) → m ≢ n → list_at new m ≡ list_at old m

-- postings of the node k are those of names, their frequencies have 64 bits, and their references
-- list the node
pub record IsListed (names : Names) (references : List Reference) (k : ℕ) (P : Frequencies) : Type 0
  where
    pub listed : (n f : ℕ) → get P n ≡ Some f → IsTrue (has (list_at references n) k)
    pub named : AreNumbered names P
    pub small : (n f : ℕ) → get P n ≡ Some f → f < 2 ^ 64

-- each node has postings of names alone
abbrev pub AreAllNumbered : Names → List Node → Type 0
AreAllNumbered names nodes = (k : ℕ) → AreNumbered names (postings_at nodes k)

-- Each posting is that of a name, its frequency has 64 bits, and its reference lists its node. A
-- reference may list other nodes too.
pub record AreListed (names : Names) (references : List Reference) (nodes : List Node) : Type 0
  where
    pub listed : (k n f : ℕ) → get (postings_at nodes k) n ≡ Some f
        → IsTrue (has (list_at references n) k)
    pub named : AreAllNumbered names nodes
    pub small : (k n f : ℕ) → get (postings_at nodes k) n ≡ Some f → f < 2 ^ 64

-- as many nodes, with the same children
pub record SameShape (old new : List Node) : Type 0 where
  pub count : length new ≡ length old
  pub children : (k : ℕ) → children_of (slice_get new k) ≡ children_of (slice_get old k)

-- the node k is without the posting of the reference n
pub record ClearsNumber (old new : List Node) (k n : ℕ) : Type 0 where
  pub shape : SameShape old new
  pub here : postings_at new k ≡ remove (postings_at old k) n
  pub elsewhere : (j : ℕ) → j ≢ k → postings_at new j ≡ postings_at old j

-- the first i nodes of the list are without the posting of the reference n, and no other reference
-- loses one
pub record LosesListed (old new : List Node) (list : List ℕ) (i n : ℕ) : Type 0 where
  pub shape : SameShape old new
  pub gone : (j : ℕ) → j < i → get (postings_at new (slice_index list j)) n ≡ None
  pub stays_gone : (k : ℕ) → get (postings_at old k) n ≡ None → get (postings_at new k) n ≡ None
  pub others : (k m : ℕ) → m ≢ n → get (postings_at new k) m ≡ get (postings_at old k) m

-- no node has a posting of the reference n, and no other reference loses one
pub record LosesNumber (old new : List Node) (n : ℕ) : Type 0 where
  pub shape : SameShape old new
  pub gone : (k : ℕ) → get (postings_at new k) n ≡ None
  pub others : (k m : ℕ) → m ≢ n → get (postings_at new k) m ≡ get (postings_at old k) m

-- the same, by name
pub record LosesReference (names : Names) (old new : List Node) (r : Bytes) : Type 0 where
  pub shape : SameShape old new
  pub gone : (k : ℕ) → at names r (postings_at new k) ≡ None
  pub others : (k : ℕ) (q : Bytes) → q ≢ r → at names q (postings_at new k)
      ≡ at names q (postings_at old k)

-- new references list what old ones list
abbrev pub KeepsLists : List Reference → List Reference → Type 0
KeepsLists old new = (n k : ℕ) → IsTrue (has (list_at old n) k) → IsTrue (has (list_at new n) k)

-- new references list what old ones list, but for the node k at the reference n
abbrev pub KeepsOtherNodes : List Reference → List Reference → ℕ → ℕ → Type 0
KeepsOtherNodes old new n k = (m q : ℕ) → ¬ ((m ≡ n) × (q ≡ k)) → IsTrue (has (list_at old m) q)
    → IsTrue (has (list_at new m) q)

-- the node k has the posting f of the reference n, and nothing else changes
pub record SetsNumber (old new : List Node) (k n f : ℕ) : Type 0 where
  pub shape : SameShape old new
  pub here : postings_at new k ≡ insert (postings_at old k) n f
  pub elsewhere : (j : ℕ) → j ≢ k → postings_at new j ≡ postings_at old j

-- the nodes have the same children and postings
pub record SameNodes (old new : List Node) : Type 0 where
  pub shape : SameShape old new
  pub postings : (k : ℕ) → postings_at new k ≡ postings_at old k

-- each node has the same frequencies by name
pub record SamePostings (names names2 : Names) (old new : List Node) : Type 0 where
  pub shape : SameShape old new
  pub postings : (k : ℕ) (q : Bytes) → at names2 q (postings_at new k)
      ≡ at names q (postings_at old k)

-- the node k has the posting f of the reference r, and nothing else changes
pub record SetsPosting (names names2 : Names) (old new : List Node) (k : ℕ) (r : Bytes) (f : ℕ) :
    Type 0 where
  pub shape : SameShape old new
  pub here : at names2 r (postings_at new k) ≡ Some f
  pub others : (j : ℕ) (q : Bytes) → ¬ ((j ≡ k) × (q ≡ r)) → at names2 q (postings_at new j)
      ≡ at names q (postings_at old j)
