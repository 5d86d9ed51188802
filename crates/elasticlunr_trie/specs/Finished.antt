-- The value of a node, made of its children's values; for private clauses.
use Rattle.std.specs.Prelude.{◌≡◌, ◌≢◌, ◌⊎◌, ℕ, List, slice_get, Option, Some, IsSome, option_map}
use Rattle.std.specs.Prelude.{option_and_then, codes, encode_utf8}
use Rattle.serde_json.specs.Data.{Data, number, unsigned, Members}
use Rattle.serde_json.specs.Find.{get_member}
use Rattle.serde_json.specs.View.{view}
use Rattle.serde_json.specs.declared.value.Value.{Value}
use Rattle.elasticlunr_trie.specs.Children.{Children, child}
use Rattle.elasticlunr_trie.specs.Tree.{HasKeysInOrder}

-- the value of the node k
abbrev pub value_at : List Value → ℕ → Option Data
value_at vs k = option_map view (slice_get vs k)

-- the members have the values of these children, and no others
pub record HasChildren (children : Children) (vs : List Value) (ms : Members) : Type 0 where
  pub present : (c : ℕ) → get_member (encode_utf8 c) ms
      ≡ option_and_then (value_at vs) (child children c)
  pub only : (q : List ℕ) → IsSome (get_member q ms) → (c : ℕ) × IsSome (child children c)
      × (q ≡ encode_utf8 c)

-- the values, but for those of these children
abbrev pub KeepsOtherValues : Children → List Value → List Value → Type 0
KeepsOtherValues children old new = (k : ℕ) → ((c : ℕ) → child children c ≢ Some k)
    → slice_get new k ≡ slice_get old k

-- the members are those of a node
pub record IsNode (children : Children) (vs : List Value) (docs : Data) (df : ℕ) (ms : Members) :
    Type 0 where
  pub order : HasKeysInOrder ms
  pub docs_there : get_member (codes "docs") ms ≡ Some docs
  pub df_there : get_member (codes "df") ms ≡ Some (number (unsigned df))
  pub present : (c : ℕ) → get_member (encode_utf8 c) ms
      ≡ option_and_then (value_at vs) (child children c)
  pub only : (q : List ℕ) → IsSome (get_member q ms) → (q ≡ codes "docs") ⊎ (q ≡ codes "df")
      ⊎ ((c : ℕ) × IsSome (child children c) × (q ≡ encode_utf8 c))
