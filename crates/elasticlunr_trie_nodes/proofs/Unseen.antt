-- What is done before memory runs out, which the table does not show.
use Rattle.std.proofs.Common.{◌≡◌, ◌+◌, ◌<◌, ℕ, List, [], ◌∷◌, length, length-append, Some, None, refl, sym, ap, subst}
use Rattle.std.proofs.Common.{◌∙◌}
use Rattle.std.specs.FinMap.{get, get-empty}
use Rattle.std.specs.Ordering.{nat_cmp}
use Rattle.std.specs.Str.{IsUtf8}
use Rattle.elasticlunr_error.specs.Text.{Text}
use Rattle.elasticlunr_trie_nodes.specs.Pairs.{Pairs}
use Rattle.elasticlunr_trie_nodes.specs.Names.{Names, entered, at}
use Rattle.elasticlunr_trie_nodes.specs.Nodes.{AreListed, KeepsLists, SameNodes}
use Rattle.elasticlunr_trie_nodes.specs.Trie.{entries_at, table_of, IsIndex}
use Rattle.elasticlunr_trie_nodes.specs.Branch.{SameTrie, IsBranch}
use Rattle.elasticlunr_error.specs.Text.{Bytes}
use Rattle.elasticlunr_trie_nodes.specs.declared.nodes.Node.{Node}
use Rattle.elasticlunr_trie_nodes.specs.declared.nodes.Reference.{Reference}
use Rattle.elasticlunr_trie_nodes.specs.declared.nodes.Place.{Place}
use Rattle.elasticlunr_trie_nodes.specs.declared.nodes.Place.TheVariants.{Root, At}
use Rattle.elasticlunr_trie_nodes.proofs.Added.{names_entered, still_listed, length-entered, same_postings, at-entered}
use Rattle.elasticlunr_trie_nodes.proofs.Settled.{settled_trie, settled_parents, unseen}

module _ (root : Pairs) (nodes : List Node) (names : Names) (references : List Reference)
    (index : IsIndex root nodes names references) (r : Bytes) (names2 : Names) (is : names2 ≡ entered names r) where
  module _ (root2 : Pairs) (nodes2 : List Node) (same : SameTrie root nodes root2 nodes2) where
    same_nodes : SameNodes nodes nodes2
    same_nodes = record {
      shape = record { count = same.count; children = λ k. same.children (At k) };
      postings =
          λ k. same.entries (At k);
    }

    pub kept_index : IsUtf8 r → (references2 : List Reference) → KeepsLists references references2
        → IsIndex root2 nodes2 names2 references2
    kept_index utf8 references2 keeps =
        subst (λ ns. IsIndex root2 nodes2 ns references2) (sym is)
        (subst (λ es. IsIndex es nodes2 (entered names r) references2) (sym (same.children Root)) (record {
          names_are = names_entered names index.names_are r utf8;
          trie = settled_trie root nodes index.trie nodes2 same_nodes.shape;
          parents = settled_parents root nodes index.trie nodes2 same_nodes.shape index.parents;
          listed = still_listed names references nodes index.listed (entered names r) references2 nodes2
              (length-entered names r _ refl) keeps same_nodes.postings;
        }))

    pub kept_table : table_of root2 nodes2 names2 ≡ table_of root nodes names
    kept_table =
        ap (table_of root2 nodes2) is ∙ ap (λ es. table_of es nodes2 (entered names r)) (same.children Root)
        ∙ unseen root nodes index.trie names (entered names r) nodes2
        (same_postings names references nodes index.listed r nodes2 same_nodes)

pub same_trie : (root : Pairs) (nodes : List Node) → SameTrie root nodes root nodes
same_trie root nodes = record { count = refl; children = λ q. refl; entries = λ q. refl }

pub keeps_same : (references : List Reference) → KeepsLists references references
keeps_same references n k h = h

-- postings are seen under the same names
pub kept_at : (root : Pairs) (nodes : List Node) (names : Names) (references : List Reference)
    → AreListed names references nodes → (r : Bytes) (names2 : Names) → names2 ≡ entered names r
    → (q : Place) (u : Bytes) → at names2 u (entries_at root nodes q) ≡ at names u (entries_at root nodes q)
kept_at root nodes names references are r names2 is q u = ap (λ ns. at ns u (entries_at root nodes q)) is
    ∙ at-entered names r (entries_at root nodes q) (numbered q) u
  where
    numbered : (q : Place) (n f : ℕ) → get (entries_at root nodes q) n ≡ Some f → n < length names
    numbered Root n f e = let none : get (entries_at root nodes Root) n ≡ None = get-empty nat_cmp n in absurd (cc)
    numbered (At k) n f e = are.named k n f e

pub branch_length : (n : ℕ) (cs : Text) (r m : ℕ) (branch : List Node) → IsBranch n cs r m branch → length branch
    ≡ length cs + 1
branch_length n cs r m branch made = ap length made.split ∙ length-append made.front (made.leaf ∷ [])
    ∙ ap (λ k. k + 1) made.inner.count
