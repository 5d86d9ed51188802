-- Nodes whose children stay: what their tables are, where postings are set, or taken away, or only named anew.
use Rattle.std.proofs.Common.{◌≡◌, ◌≢◌, ◌<◌, ◌≤◌, ℕ, List, [], ◌++◌, length, Option, Some, None, option_map}
use Rattle.std.proofs.Common.{option_and_then, refl, sym, ap, subst, ◌∙◌, append-nil, is_some}
use Rattle.std.proofs.lemmas.Cmp.{nat_list_cmp_total}
use Rattle.std.specs.Ordering.{nat_cmp}
use Rattle.std.specs.FinMap.{get, same_map, slice_cmp-IsAntisymmetric, nat_cmp-IsAntisymmetric, get-empty}
use Rattle.elasticlunr_error.specs.Text.{Text, Bytes}
use Rattle.elasticlunr_trie_nodes.specs.Table.{Table, Postings, knows, posting, AddsToken}
use Rattle.elasticlunr_trie_nodes.specs.Pairs.{Pairs, value_of, IsStrictlySorted}
use Rattle.elasticlunr_trie_nodes.specs.Names.{Names, number_of, at}
use Rattle.elasticlunr_trie_nodes.specs.Nodes.{children_of, entries_of, SameShape, SamePostings, SetsPosting}
use Rattle.elasticlunr_trie_nodes.specs.Nodes.{LosesReference}
use Rattle.elasticlunr_trie_nodes.specs.Trie.{children_at, entries_at, step_of, walk, named, table_of, IsTrie, IsForest}
use Rattle.elasticlunr_trie_nodes.specs.Trie.{AreCharacters, HaveOneParent}
use Rattle.elasticlunr_trie_nodes.specs.declared.nodes.Node.{Node}
use Rattle.elasticlunr_trie_nodes.specs.declared.nodes.Place.{Place}
use Rattle.elasticlunr_trie_nodes.specs.declared.nodes.Place.TheVariants.{Root, At}
use Rattle.elasticlunr_trie_nodes.proofs.Places.{get_past}
use Rattle.elasticlunr_trie_nodes.proofs.Forest.{Grown, grown, IsBlankFrom}
use Rattle.elasticlunr_trie_nodes.proofs.Tables.{get_table, knows_walk, get_named}
use Rattle.elasticlunr_trie_nodes.proofs.Adding.{Entered, token_added, posting_walk, posting_none}

pub same_table : (T U : Table) → ((t : Text) → get T t ≡ get U t) → T ≡ U
same_table T U same = same_map nat_list_cmp_total (slice_cmp-IsAntisymmetric nat_cmp-IsAntisymmetric) T U same

pub same_named : (P Q : Postings) → ((r : Bytes) → get P r ≡ get Q r) → P ≡ Q
same_named P Q same = same_map nat_list_cmp_total (slice_cmp-IsAntisymmetric nat_cmp-IsAntisymmetric) P Q same

-- no reference has a posting at the root
pub bare_root : (names : Names) (r : Bytes) (o : Option ℕ) → number_of names r ≡ o → (root : Pairs) (nodes : List Node)
    → at names r (entries_at root nodes Root) ≡ None
bare_root names r None e root nodes = ap (λ o. option_and_then (λ n. get (entries_at root nodes Root) n) o) e
bare_root names r (Some n) e root nodes = ap (λ o. option_and_then (λ n. get (entries_at root nodes Root) n) o) e
    ∙ get-empty nat_cmp n

module _ (root : Pairs) (nodes : List Node) (trie : IsTrie root nodes) (nodes2 : List Node)
    (shape : SameShape nodes nodes2) where
  children : (q : Place) → children_at root nodes2 q ≡ children_at root nodes q
  children Root = refl
  children (At k) = shape.children k

  pub same_steps : step_of root nodes ≡ step_of root nodes2
  same_steps = λ i. λ q d. value_of (sym (children q) i) d

  -- where a text led, it still leads
  pub settled_paths : (t : Text) (p : Place) → walk (step_of root nodes) Root t ≡ Some p
      → walk (step_of root nodes2) Root t ≡ Some p
  settled_paths t p e = sym (ap (λ step. walk step Root t) same_steps) ∙ e

  pub settled_trie : IsTrie root nodes2
  settled_trie = record {
    in_order = λ q. subst IsStrictlySorted (sym (children q)) (trie.in_order q);
    forest = subst (λ s. IsForest s (length nodes2)) same_steps
        (subst (IsForest (step_of root nodes)) (sym shape.count) trie.forest);
    characters = λ q. subst AreCharacters (sym (children q)) (trie.characters q);
  }

  pub settled_parents : HaveOneParent (step_of root nodes) (length nodes)
      → HaveOneParent (step_of root nodes2) (length nodes2)
  settled_parents parents = subst (λ s. HaveOneParent s (length nodes2)) same_steps
      (subst (HaveOneParent (step_of root nodes)) (sym shape.count) parents)

  pub same_walk : (t : Text) → walk (step_of root nodes2) Root t ≡ walk (step_of root nodes) Root t
  same_walk t = λ i. walk (sym same_steps i) Root t

module _ (root : Pairs) (nodes : List Node) (trie : IsTrie root nodes) (names names2 : Names) (nodes2 : List Node) where
  -- postings that only have other numbers
  module _ (same : SamePostings names names2 nodes nodes2) where
    entries : (p : Place) → named names2 (entries_at root nodes2 p) ≡ named names (entries_at root nodes p)
    entries Root = same_named _ _ (λ r. get_named names2 _ r ∙ bare_root names2 r _ refl root nodes2
        ∙ sym (get_named names _ r ∙ bare_root names r _ refl root nodes))
    entries (At k) = same_named _ _ (λ r. get_named names2 _ r ∙ same.postings k r ∙ sym (get_named names _ r))

    pub unseen : table_of root nodes2 names2 ≡ table_of root nodes names
    unseen = same_table _ _ (λ t.
        get_table root nodes2 (settled_trie root nodes trie nodes2 same.shape) names2 t
        ∙ (λ i. option_map (λ p. entries p i) (walk (sym (same_steps root nodes trie nodes2 same.shape) i) Root t))
        ∙ sym (get_table root nodes trie names t))

-- a reference is taken away
module _ (root : Pairs) (nodes : List Node) (trie : IsTrie root nodes) (names : Names) (nodes2 : List Node) (r : Bytes)
    (loses : LosesReference names nodes nodes2 r) where
  pub lost_trie : IsTrie root nodes2
  lost_trie = settled_trie root nodes trie nodes2 loses.shape

  steps : (t : Text) → walk (step_of root nodes2) Root t ≡ walk (step_of root nodes) Root t
  steps t = same_walk root nodes trie nodes2 loses.shape t

  pub lost_known : (t : Text) → knows (table_of root nodes2 names) t ≡ knows (table_of root nodes names) t
  lost_known t = knows_walk root nodes2 lost_trie names t ∙ ap is_some (steps t)
      ∙ sym (knows_walk root nodes trie names t)

  pub lost_gone : (t : Text) → posting (table_of root nodes2 names) t r ≡ None
  lost_gone t = by (walk (step_of root nodes2) Root t) refl
    where
      none : (p : Place) → at names r (entries_at root nodes2 p) ≡ None
      none Root = bare_root names r _ refl root nodes2
      none (At k) = loses.gone k

      by : (o : Option Place) → walk (step_of root nodes2) Root t ≡ o → posting (table_of root nodes2 names) t r ≡ None
      by None e = posting_none root nodes2 lost_trie names t r e
      by (Some p) e = posting_walk root nodes2 lost_trie names t p r e ∙ none p

  pub lost_others : (t : Text) (q : Bytes) → q ≢ r → posting (table_of root nodes2 names) t q
      ≡ posting (table_of root nodes names) t q
  lost_others t q other = by (walk (step_of root nodes) Root t) refl
    where
      same : (p : Place) → at names q (entries_at root nodes2 p) ≡ at names q (entries_at root nodes p)
      same Root = refl
      same (At k) = loses.others k q other

      by : (o : Option Place) → walk (step_of root nodes) Root t ≡ o → posting (table_of root nodes2 names) t q
          ≡ posting (table_of root nodes names) t q
      by None e = posting_none root nodes2 lost_trie names t q (steps t ∙ e)
          ∙ sym (posting_none root nodes trie names t q e)
      by (Some p) e = posting_walk root nodes2 lost_trie names t p q (steps t ∙ e) ∙ same p
          ∙ sym (posting_walk root nodes trie names t p q e)

-- a posting is set
module _ (root : Pairs) (nodes : List Node) (trie : IsTrie root nodes) (names names2 : Names) (nodes2 : List Node)
    (k : ℕ) (r : Bytes) (m : ℕ) (sets : SetsPosting names names2 nodes nodes2 k r m) where
  blank : IsBlankFrom (step_of root nodes) (length nodes)
  blank j d h = ap (λ n. value_of (children_of n) d) (get_past nodes j h)

  nothing : (j : ℕ) → length nodes ≤ j → (u : Bytes) (o : Option ℕ) → number_of names u ≡ o
      → at names u (entries_at root nodes (At j)) ≡ None
  nothing j up u None e = ap (λ o. option_and_then (λ n. get (entries_at root nodes (At j)) n) o) e
  nothing j up u (Some n) e =
      ap (λ o. option_and_then (λ x. get (entries_at root nodes (At j)) x) o) e
      ∙ ap (λ o. get (entries_of o) n) (get_past nodes j up) ∙ get-empty nat_cmp n

  apart_at : (q : Place) → q ≢ At k → (u : Bytes) → at names2 u (entries_at root nodes2 q)
      ≡ at names u (entries_at root nodes q)
  apart_at Root apart u = bare_root names2 u _ refl root nodes2 ∙ sym (bare_root names u _ refl root nodes)
  apart_at (At j) apart u = sets.others j u (λ both. apart (ap At both.0))

  pub posting_added : (t : Text) → k < length nodes → walk (step_of root nodes) Root t ≡ Some (At k)
      → AddsToken (table_of root nodes names) (table_of root nodes2 names2) t r m
  posting_added t in_range leads =
      let more : Grown (step_of root nodes) (step_of root nodes2) (length nodes) t [] (At k) =
      grown [] t (step_of root nodes) (step_of root nodes2) (length nodes) (At k) trie.forest blank leads
      (λ c rest e. absurd (cc)) (λ q d. λ i. sym (same_steps root nodes trie nodes2 sets.shape) i q d) in
      let enters : Entered names names2 root nodes root nodes2 (length nodes) (t ++ []) (At k) r m = record {
        old = λ s q e apart u. apart_at q apart u;
        fresh = λ j up apart u. apart_at (At j) apart u ∙ nothing j up u _ refl;
        here = sets.here;
        others = λ q apart. sets.others k q (λ both. apart both.1)
            ∙ sym (posting_walk root nodes trie names (t ++ []) (At k) q
            (ap (walk (step_of root nodes) Root) (append-nil t) ∙ leads));
      } in
      subst (λ u. AddsToken (table_of root nodes names) (table_of root nodes2 names2) u r m) (append-nil t)
      (token_added root nodes trie root nodes2 (settled_trie root nodes trie nodes2 sets.shape) names names2
      (length nodes) t [] (At k) r m more enters)
