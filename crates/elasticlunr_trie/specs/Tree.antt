-- The JSON value of a table.
use Rattle.std.specs.Prelude.{◌≡◌, ◌↔◌, ◌⊎◌, ℕ, List, [], ◌∷◌, ◌++◌, Some, IsSome, IsTrue, codes}
use Rattle.std.specs.Prelude.{encode_utf8}
use Rattle.std.specs.declared.cmp.Ordering.TheVariants.{Less}
use Rattle.std.specs.Ordering.{nat_cmp}
use Rattle.std.specs.Cmp.Lexicographic.{slice_cmp}
use Rattle.std.specs.FinMap.{entries, len}
use Rattle.serde_json.specs.Data.{Data, null, boolean, number, string, array, object, unsigned}
use Rattle.serde_json.specs.Data.{Members, no_members, member}
use Rattle.serde_json.specs.Find.{get_member}
use Rattle.elasticlunr_error.specs.Text.{Text, Bytes}
use Rattle.elasticlunr_json.specs.Maps.{members}
use Rattle.elasticlunr_trie_nodes.specs.Table.{Table, knows, postings}

-- the value of a posting
abbrev pub frequency : ℕ → Data
frequency n = object (member (codes "tf") (number (unsigned n)) no_members)

-- each reference with its frequency
abbrev pub frequencies : List (Bytes × ℕ) → Members
frequencies es = members frequency es

-- k is below the keys of the members
abbrev pub IsBelow : List ℕ → Members → Type 0
IsBelow k no_members = Unit {0}
IsBelow k (member l d ms) = (slice_cmp nat_cmp k l ≡ Less) × IsBelow k ms

-- each key once, in the order of the keys' bytes
abbrev pub HasKeysInOrder : Members → Type 0
HasKeysInOrder no_members = Unit {0}
HasKeysInOrder (member k d ms) = IsBelow k ms × HasKeysInOrder ms

-- d is the tree of the table T at its known text p
abbrev mutual
  pub IsTree : Table → Text → Data → Type 0
  IsTree T p null = ⊥
  IsTree T p (boolean b) = ⊥
  IsTree T p (number n) = ⊥
  IsTree T p (string s) = ⊥
  IsTree T p (array ds) = ⊥
  IsTree T p (object ms) =
      HasKeysInOrder ms
      × (get_member (codes "docs") ms ≡ Some (object (frequencies (entries (postings T p)))))
      × (get_member (codes "df") ms ≡ Some (number (unsigned (len (postings T p)))))
      × ((c : ℕ) → IsTrue (knows T (p ++ c ∷ [])) ↔ IsSome (get_member (encode_utf8 c) ms))
      × AreParts T p ms

  -- each member is `docs`, `df` or, under a character, the tree at the text that goes on with it
  pub AreParts : Table → Text → Members → Type 0
  AreParts T p no_members = Unit {0}
  AreParts T p (member k d ms) =
      ((k ≡ codes "docs") ⊎ (k ≡ codes "df")
      ⊎ ((c : ℕ) × (k ≡ encode_utf8 c) × IsTree T (p ++ c ∷ []) d))
      × AreParts T p ms

-- the trie value of a table
abbrev pub IsTrieValue : Table → Data → Type 0
IsTrieValue T v = (d : Data) × (v ≡ object (member (codes "root") d no_members)) × IsTree T [] d
