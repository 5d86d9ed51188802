-- The nodes below a place, in the order of their texts, and the rest of them; for private
-- clauses.
use Rattle.std.specs.Prelude.{◌≡◌, ◌≢◌, ℕ, zero, suc, ◌+◌, ◌*◌, Bool, List, [], ◌∷◌, ◌++◌, length}
use Rattle.std.specs.Prelude.{take, slice_get, nat_lt, if◌then◌else◌}
use Rattle.std.specs.Borrow.{Bor}
use Rattle.std.specs.FinMap.{len}
use Rattle.elasticlunr_error.specs.Text.{Text}
use Rattle.elasticlunr_trie.specs.Children.{Children}
use Rattle.elasticlunr_trie_nodes.specs.Nodes.{children_of, postings_at}
use Rattle.elasticlunr_trie_nodes.specs.declared.nodes.Node.{Node}

-- a text, and the node to which it leads
abbrev pub Visits : Type 0
Visits = List (Text × ℕ)

-- for each child, what f gives of the text that goes on with its character, and of its node
abbrev pub below : (Text → ℕ → Visits) → Text → Children → Visits
below f t [] = []
below f t (e ∷ es) = f (t ++ e.0 ∷ []) e.1 ++ below f t es

module _ (nodes : List Node) where
  -- the node k, to which the text t leads, and the nodes up to n characters below it
  abbrev pub visits : ℕ → Text → ℕ → Visits
  visits zero t k = (t, k) ∷ []
  visits (suc n) t k = (t, k) ∷ below (visits n) t (children_of (slice_get nodes k))

  -- the node k, to which the text t leads, and all nodes below it
  unfoldable pub node_visits : Text → ℕ → Visits
  node_visits = visits (length nodes)

  -- the children of each node come after it
  abbrev pub HasVisits : Type 0
  HasVisits = (t : Text) (k : ℕ) → node_visits t k ≡ (t, k)
      ∷ below node_visits t (children_of (slice_get nodes k))

  -- the node k has a posting
  abbrev pub is_posted : ℕ → Bool
  is_posted k = nat_lt 0 (len (postings_at nodes k))

  -- the texts that lead to nodes with a posting
  abbrev pub posted : Visits → List Text
  posted [] = []
  posted (v ∷ vs) = if is_posted v.1 then v.0 ∷ posted vs else posted vs

  -- What is left to visit: at each level of the text, from n characters on, children. The last come
  -- first.
  abbrev pub left : ℕ → Text → List (Bor Children) → Visits
  left n t [] = []
  left n t (es ∷ rest) = left (suc n) t rest ++ below node_visits (take n t) es.now

  -- The first of what was left are visited: children at the end of the text, and then those of the
  -- stack.
  pub record Advances (n : ℕ) (t : Text) (es : Children) (stack : List (Bor Children))
      (found : List Text) (t2 : Text) (stack2 : List (Bor Children)) (found2 : List Text) : Type 0
    where
      pub visited : Visits
      pub split : below node_visits t es ++ left n t stack ≡ visited ++ left n t2 stack2
      pub more : found2 ≡ found ++ posted visited
      pub smaller : length stack2 ≡ length stack + 2 * length visited
      pub level : stack2 ≢ [] → suc (length t2) ≡ n + length stack2
