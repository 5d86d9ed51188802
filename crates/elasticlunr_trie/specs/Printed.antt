-- The tree of a place, with its members in the order of their keys, and what is left to write of
-- it; for private clauses.
use Rattle.std.specs.Prelude.{◌≡◌, ◌<◌, slice_get, ℕ, zero, suc, List, [], ◌∷◌, ◌++◌, length, codes}
use Rattle.std.specs.Prelude.{encode_utf8, decimal, if◌then◌else◌, nat_lt}
use Rattle.std.specs.FinMap.{entries, len}
use Rattle.json.specs.Token.{Token}
use Rattle.serde_json.specs.Data.{Data, null, number, unsigned, object, Members, no_members, member}
use Rattle.elasticlunr_json.specs.Tokens.{tokens_of}
use Rattle.elasticlunr_trie_nodes.specs.Table.{Postings}
use Rattle.elasticlunr_trie.specs.Tree.{frequencies}
use Rattle.elasticlunr_trie_nodes.specs.Names.{Names, AreNames, AreRanks}
use Rattle.elasticlunr_trie.specs.Children.{Children}
use Rattle.elasticlunr_trie_nodes.specs.Nodes.{children_of, entries_of}
use Rattle.elasticlunr_trie_nodes.specs.Trie.{named, entries_at}
use Rattle.elasticlunr_trie_nodes.specs.declared.nodes.Node.{Node}
use Rattle.elasticlunr_trie.specs.declared.inverted_index.write.Left.{Left}
use Rattle.elasticlunr_trie.specs.declared.inverted_index.write.Order.{Order}
use Rattle.elasticlunr_trie.specs.declared.inverted_index.write.Left.TheVariants.{WithPostings}
use Rattle.elasticlunr_trie.specs.declared.inverted_index.write.Left.TheVariants.{WithoutPostings}

-- the values of children, under their characters
abbrev pub children_members : (ℕ → Data) → Children → Members
children_members value [] = no_members
children_members value ((c, k) ∷ es) = member (encode_utf8 c) (value k) (children_members value es)

-- `df` and `docs`, before other members
abbrev pub postings_before : Postings → Members → Members
postings_before P ms = member (codes "df") (number (unsigned (len P)))
    (member (codes "docs") (object (frequencies (entries P))) ms)

-- the members of a tree: the children up to the character `d`, then `df` and `docs`, then the other
-- children
abbrev pub place_members : (ℕ → Data) → Postings → Children → Members
place_members value P [] = postings_before P no_members
place_members value P ((c, k) ∷ es) = if nat_lt 100 c then postings_before P
    (children_members value ((c, k) ∷ es)) else member (encode_utf8 c) (value k)
    (place_members value P es)

-- `df` and `docs`
abbrev pub postings_tokens : Postings → List Token
postings_tokens P = Token.key (codes "df") ∷ Token.number (decimal (len P))
    ∷ Token.key (codes "docs") ∷ Token.begin_object ∷ tokens_of (frequencies (entries P))

-- the names differ, and the ranks are theirs
abbrev pub IsOrder : Order → Type 0
IsOrder order = AreNames order.names.now × AreRanks order.names.now order.ranks.now

module _ (names : Names) (nodes : List Node) where
  -- the tree of the node k, n characters deep
  abbrev pub tree_of : ℕ → ℕ → Data
  tree_of zero k = object (place_members (λ j. null) (named names (entries_of (slice_get nodes k)))
      (children_of (slice_get nodes k)))
  tree_of (suc n) k = object (place_members (tree_of n)
      (named names (entries_of (slice_get nodes k))) (children_of (slice_get nodes k)))

  -- the tree of the node k
  unfoldable pub node_tree : ℕ → Data
  node_tree k = tree_of (length nodes) k

  -- its members
  abbrev pub node_members : ℕ → Members
  node_members k = place_members node_tree (named names (entries_of (slice_get nodes k)))
      (children_of (slice_get nodes k))

  -- each node has a tree
  abbrev pub HasTrees : Type 0
  HasTrees = (k : ℕ) → node_tree k ≡ object (node_members k)

  abbrev pub left_members : Left → Members
  left_members (WithPostings p es) = place_members node_tree (named names (entries_at [] nodes p))
      es.now
  left_members (WithoutPostings es) = children_members node_tree es.now

  -- the last comes first
  abbrev pub stack_tokens : List Left → List Token
  stack_tokens [] = []
  stack_tokens (l ∷ ls) = stack_tokens ls ++ tokens_of (left_members l)

-- some first ones of the tokens that were left are written, and not none
abbrev pub Advances : List Token → List Token → List Token → List Token → Type 0
Advances old left new still_left = (ts : List Token) × (0 < length ts) × (new ≡ old ++ ts)
    × (left ≡ ts ++ still_left)
