-- The node of a value, when the values of its children are numbered; for private clauses.
use Rattle.std.specs.Prelude.{◌≡◌, ◌≢◌, ◌⊎◌, ℕ, ◌<◌, ◌≤◌, List, [], ◌∷◌, ◌++◌, map, length, Some}
use Rattle.std.specs.Prelude.{IsSome, true, codes, encode_utf8, option_and_then}
use Rattle.std.specs.Borrow.{Bor}
use Rattle.std.specs.Str.{all_scalars}
use Rattle.std.specs.FinMap.{entries, len}
use Rattle.serde_json.specs.Data.{Data, object, Members}
use Rattle.serde_json.specs.Find.{get_member}
use Rattle.serde_json.specs.declared.value.Value.{Value}
use Rattle.elasticlunr_trie_nodes.specs.Pairs.{IsStrictlySorted}
use Rattle.elasticlunr_trie.specs.Children.{Children, child}
use Rattle.elasticlunr_trie_nodes.specs.Trie.{AreCharacters}
use Rattle.elasticlunr_trie_nodes.specs.Table.{Entries, postings_of}
use Rattle.elasticlunr_trie.specs.Tree.{frequencies}
use Rattle.elasticlunr_trie.specs.Finished.{value_at, IsNode}

-- the values after references
abbrev pub borrowed_values : List (Bor Value) → List Value
borrowed_values rs = map (λ r. r.now) rs

-- new is old with the values of these children after it, each once
pub record HasNewValues (children : Children) (old new : List Value) : Type 0 where
  pub more : List Value
  pub grown : new ≡ old ++ more
  pub sorted : IsStrictlySorted children
  pub characters : AreCharacters children
  pub fresh : (c k : ℕ) → child children c ≡ Some k → (length old ≤ k) × (k < length new)
  pub apart : (c d k : ℕ) → child children c ≡ Some k → child children d ≡ Some k → c ≡ d
  pub each : (k : ℕ) → length old ≤ k → k < length new → (c : ℕ) × (child children c ≡ Some k)

-- each member is `docs`, `df` or the value of a child
pub record ReadsChildren (children : Children) (old new : List Value) (ms : Members) : Type 0 where
  pub values : HasNewValues children old new
  pub present : (c : ℕ) → get_member (encode_utf8 c) ms
      ≡ option_and_then (value_at new) (child children c)
  pub only : (q : List ℕ) → IsSome (get_member q ms) → (q ≡ codes "docs") ⊎ (q ≡ codes "df")
      ⊎ ((c : ℕ) × IsSome (child children c) × (q ≡ encode_utf8 c))

-- a member is neither `docs` nor `df` nor under a character
abbrev pub HasForeignKey : Members → Type 0
HasForeignKey ms = (q : List ℕ) × IsSome (get_member q ms) × (q ≢ codes "docs") × (q ≢ codes "df")
    × ((c : ℕ) → all_scalars (c ∷ []) ≡ true → q ≢ encode_utf8 c)

-- d is the value of a node with these children and entries
pub record ReadsNode (children : Children) (es : Entries) (old new : List Value) (d : Data) : Type 0
  where
    pub values : HasNewValues children old new
    pub members : Members
    pub is : d ≡ object members
    pub node : IsNode children new (object (frequencies (entries (postings_of es))))
        (len (postings_of es)) members
