-- A token is added: from nodes to tables.
use Rattle.std.proofs.Common.{◌≡◌, ◌≢◌, ◌⊎◌, inl, inr, IsTrue, is_some, ℕ, ◌≤◌, List, ◌++◌, Option, Some, None, refl}
use Rattle.std.proofs.Common.{sym, ap, ◌∙◌}
use mathlib.Core.Bool.{false≢true}
use Rattle.elasticlunr_error.specs.Text.{Text, Bytes}
use Rattle.elasticlunr_trie_nodes.specs.Table.{knows, posting, IsPrefix, AddsToken}
use Rattle.elasticlunr_trie_nodes.specs.Pairs.{Pairs}
use Rattle.elasticlunr_trie_nodes.specs.Names.{Names, at}
use Rattle.elasticlunr_trie_nodes.specs.Trie.{entries_at, step_of, walk, table_of, IsTrie}
use Rattle.elasticlunr_json.proofs.Texts.{same_or_not}
use Rattle.elasticlunr_trie_nodes.proofs.Forest.{Grown, end_of, one_path, walk_front}
use Rattle.elasticlunr_trie_nodes.proofs.Tables.{knows_walk, postings_walk, no_postings, get_named}
use Rattle.std.specs.FinMap.{get, get-empty}
use Rattle.std.specs.Ordering.{nat_cmp}
use Rattle.std.specs.Cmp.Lexicographic.{slice_cmp}
use Rattle.elasticlunr_trie_nodes.specs.declared.nodes.Node.{Node}
use Rattle.elasticlunr_trie_nodes.specs.declared.nodes.Place.{Place}
use Rattle.elasticlunr_trie_nodes.specs.declared.nodes.Place.TheVariants.{Root, At}

module _ (root : Pairs) (nodes : List Node) (trie : IsTrie root nodes) (names : Names) where
  -- the posting of a reference is that of the place where the text leads
  pub posting_walk : (t : Text) (p : Place) (r : Bytes) → walk (step_of root nodes) Root t ≡ Some p
      → posting (table_of root nodes names) t r ≡ at names r (entries_at root nodes p)
  posting_walk t p r e = ap (λ m. get m r) (postings_walk root nodes trie names t p e)
      ∙ get_named names (entries_at root nodes p) r

  pub posting_none : (t : Text) (r : Bytes) → walk (step_of root nodes) Root t ≡ None
      → posting (table_of root nodes names) t r ≡ None
  posting_none t r e = ap (λ m. get m r) (no_postings root nodes trie names t e) ∙ get-empty (slice_cmp nat_cmp) r

  pub known_from : (t : Text) (p : Place) → walk (step_of root nodes) Root t ≡ Some p
      → IsTrue (knows (table_of root nodes names) t)
  known_from t p e = knows_walk root nodes trie names t ∙ ap is_some e

  pub known_to : (t : Text) → IsTrue (knows (table_of root nodes names) t) → (p : Place)
      × (walk (step_of root nodes) Root t ≡ Some p)
  known_to t k = by (walk (step_of root nodes) Root t) refl
    where
      by : (o : Option Place) → walk (step_of root nodes) Root t ≡ o → (p : Place)
          × (walk (step_of root nodes) Root t ≡ Some p)
      by None e = absurd (false≢true (sym (knows_walk root nodes trie names t ∙ ap is_some e) ∙ k))
      by (Some p) e = (p, e)

-- What the new nodes have beside their paths, where the token is t and leads to the place e.
pub record Entered (names names2 : Names) (root : Pairs) (nodes : List Node) (root2 : Pairs) (nodes2 : List Node)
    (n : ℕ) (t : Text) (e : Place) (r : Bytes) (m : ℕ) : Type 0 where
  pub old : (s : Text) (q : Place) → walk (step_of root nodes) Root s ≡ Some q → q ≢ e → (u : Bytes)
      → at names2 u (entries_at root2 nodes2 q) ≡ at names u (entries_at root nodes q)
  pub fresh : (k : ℕ) → n ≤ k → At k ≢ e → (u : Bytes) → at names2 u (entries_at root2 nodes2 (At k)) ≡ None
  pub here : at names2 r (entries_at root2 nodes2 e) ≡ Some m
  pub others : (q : Bytes) → q ≢ r → at names2 q (entries_at root2 nodes2 e) ≡ posting (table_of root nodes names) t q

module _ (root : Pairs) (nodes : List Node) (trie : IsTrie root nodes) (root2 : Pairs) (nodes2 : List Node)
    (trie2 : IsTrie root2 nodes2) (names names2 : Names) (n : ℕ) (front cs : Text) (p : Place) (r : Bytes) (m : ℕ)
    (grown : Grown (step_of root nodes) (step_of root2 nodes2) n front cs p)
    (entered : Entered names names2 root nodes root2 nodes2 n (front ++ cs) (end_of p n cs) r m) where
  one_posting : (s : Text) (q : Bytes) → ¬ ((s ≡ front ++ cs) × (q ≡ r)) → posting (table_of root2 nodes2 names2) s q
      ≡ posting (table_of root nodes names) s q
  one_posting s q apart = elim (same_or_not s (front ++ cs)) [
    | inl same ↦ ap (λ t. posting (table_of root2 nodes2 names2) t q) same
        ∙ posting_walk root2 nodes2 trie2 names2 (front ++ cs) (end_of p n cs) q grown.whole
        ∙ entered.others q (λ e. apart (same, e)) ∙ ap (λ t. posting (table_of root nodes names) t q) (sym same)
    | inr other ↦ elim (grown.others s) [
      | inl old ↦ by (walk (step_of root nodes) Root s) refl old other
      | inr new ↦
          posting_walk root2 nodes2 trie2 names2 s (At new.0) q new.2
          ∙ entered.fresh new.0 new.1 (λ e. other (one_path (step_of root2 nodes2) _ trie2.forest s (front ++ cs)
          (At new.0) new.2 (grown.whole ∙ ap Some (sym e)))) q
          ∙ sym (posting_none root nodes trie names s q new.3)
    ]
  ]
    where
      by : (o : Option Place) → walk (step_of root nodes) Root s ≡ o → walk (step_of root2 nodes2) Root s
          ≡ walk (step_of root nodes) Root s → s ≢ front ++ cs → posting (table_of root2 nodes2 names2) s q
          ≡ posting (table_of root nodes names) s q
      by None e old other = posting_none root2 nodes2 trie2 names2 s q (old ∙ e)
          ∙ sym (posting_none root nodes trie names s q e)
      by (Some x) e old other =
          posting_walk root2 nodes2 trie2 names2 s x q (old ∙ e)
          ∙ entered.old s x e (λ h. other (one_path (step_of root2 nodes2) _ trie2.forest s (front ++ cs) x (old ∙ e)
          (grown.whole ∙ ap Some (sym h)))) q
          ∙ sym (posting_walk root nodes trie names s x q e)

  known_after : (s : Text) → IsTrue (knows (table_of root2 nodes2 names2) s)
      → IsTrue (knows (table_of root nodes names) s) ⊎ IsPrefix s (front ++ cs)
  known_after s k = elim (grown.others s) [
    | inl old ↦ inl (knows_walk root nodes trie names s ∙ ap is_some (sym old)
        ∙ sym (knows_walk root2 nodes2 trie2 names2 s) ∙ k)
    | inr new ↦ inr new.4
  ]

  known_before : (s : Text) → IsTrue (knows (table_of root nodes names) s) ⊎ IsPrefix s (front ++ cs)
      → IsTrue (knows (table_of root2 nodes2 names2) s)
  known_before s (inl k) = elim (grown.others s) [
    | inl old ↦ knows_walk root2 nodes2 trie2 names2 s ∙ ap is_some old ∙ sym (knows_walk root nodes trie names s) ∙ k
    | inr new ↦ known_from root2 nodes2 trie2 names2 s (At new.0) new.2
  ]
  known_before s (inr prefix) =
      let at = walk_front (step_of root2 nodes2) s prefix.0 Root (end_of p n cs)
      (ap (walk (step_of root2 nodes2) Root) prefix.1 ∙ grown.whole) in
      known_from root2 nodes2 trie2 names2 s at.0 at.1

  pub token_added : AddsToken (table_of root nodes names) (table_of root2 nodes2 names2) (front ++ cs) r m
  token_added = record {
    known = λ s. (known_after s, known_before s);
    set = posting_walk root2 nodes2 trie2 names2 (front ++ cs) (end_of p n cs) r grown.whole ∙ entered.here;
    others = one_posting;
  }
