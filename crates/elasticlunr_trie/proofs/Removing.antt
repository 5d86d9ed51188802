-- One posting is taken away.
use Rattle.std.proofs.Common.{◌≡◌, ◌≢◌, inl, inr, ℕ, List, length, Option, Some, None, option_and_then, is_some, refl}
use Rattle.std.proofs.Common.{sym, ap, subst, ◌∙◌}
use Rattle.std.proofs.lemmas.Bool.{cases_eq}
use Rattle.std.specs.FinMap.{get, remove}
use Rattle.elasticlunr_error.specs.Text.{Text, Bytes}
use Rattle.elasticlunr_trie_nodes.specs.Table.{knows, posting, RemovesToken}
use Rattle.elasticlunr_trie_nodes.specs.Pairs.{Pairs}
use Rattle.elasticlunr_trie_nodes.specs.Names.{Names, at, number_of}
use Rattle.elasticlunr_trie_nodes.specs.Nodes.{postings_at, AreListed, ClearsNumber, KeepsOtherNodes}
use Rattle.elasticlunr_trie_nodes.specs.Trie.{entries_at, step_of, walk, table_of, IsTrie, RemovesPosting}
use Rattle.elasticlunr_trie_nodes.specs.declared.nodes.Node.{Node}
use Rattle.elasticlunr_trie_nodes.specs.declared.nodes.Reference.{Reference}
use Rattle.elasticlunr_trie_nodes.specs.declared.nodes.Place.{Place}
use Rattle.elasticlunr_trie_nodes.specs.declared.nodes.Place.TheVariants.{Root, At}
use Rattle.elasticlunr_trie_nodes.proofs.Forest.{one_path}
use Rattle.elasticlunr_trie_nodes.proofs.Tables.{knows_walk}
use Rattle.elasticlunr_trie_nodes.proofs.Adding.{posting_walk, posting_none}
use Rattle.elasticlunr_trie_nodes.proofs.Removed.{removed_here, removed_other, one_name}
use Rattle.elasticlunr_trie_nodes.proofs.Settled.{bare_root, same_walk, settled_trie}

module _ (root : Pairs) (names : Names) (old new : List Node) (t : Text) (r : Bytes) where
  module _ (k n : ℕ) (leads : walk (step_of root old) Root t ≡ Some (At k)) (numbered : number_of names r ≡ Some n)
      (clears : ClearsNumber old new k n) where
    here : at names r (postings_at new k) ≡ None
    here = ap (λ o. option_and_then (λ m. get (postings_at new k) m) o) numbered ∙ ap (λ P. get P n) clears.here
        ∙ removed_here (postings_at old k) n

    other_name : (q : Bytes) → q ≢ r → at names q (postings_at new k) ≡ at names q (postings_at old k)
    other_name q apart = by (number_of names q) refl
      where
        by : (o : Option ℕ) → number_of names q ≡ o → option_and_then (λ m. get (postings_at new k) m) o
            ≡ option_and_then (λ m. get (postings_at old k) m) o
        by None is = refl
        by (Some m) is = ap (λ P. get P m) clears.here
            ∙ removed_other (postings_at old k) n m
            (λ same. apart (one_name names q r n (is ∙ ap Some same) numbered))

    pub clears_text : RemovesPosting root names old new t r
    clears_text = record {
      shape = clears.shape;
      gone = λ j there. let both : Some (At j) ≡ Some (At k) = sym there ∙ leads in let same : j
          ≡ k = cc in subst (λ x. at names r (postings_at new x) ≡ None) (sym same) here;
      others = λ j q other. elim (cases_eq j k) [
        | inr apart ↦ ap (at names q) (clears.elsewhere j apart)
        | inl same ↦ subst (λ x. at names q (postings_at new x) ≡ at names q (postings_at old x)) (sym same)
            (other_name q (λ e. other (leads ∙ ap (λ x. Some (At x)) (sym same), e)))
      ];
    }

pub nothing_there : (root : Pairs) (names : Names) (old : List Node) (t : Text) (r : Bytes)
    → ((k : ℕ) → walk (step_of root old) Root t ≡ Some (At k) → ⊥) → RemovesPosting root names old old t r
nothing_there root names old t r none = record {
  shape = record { count = refl; children = λ j. refl };
  gone =
      λ k there. absurd (none k there);
  others = λ k q other. refl;
}

pub nobody_there : (root : Pairs) (names : Names) (old : List Node) (t : Text) (r : Bytes) → number_of names r ≡ None
    → RemovesPosting root names old old t r
nobody_there root names old t r none = record {
  shape = record { count = refl; children = λ j. refl };
  gone = λ k there. ap (λ o. option_and_then (λ m. get (postings_at old k) m) o) none;
  others = λ k q other. refl;
}

-- the lists of the other postings stay
pub cleared_listed : (names : Names) (references references2 : List Reference) (nodes nodes2 : List Node) (k n : ℕ)
    → AreListed names references nodes → ClearsNumber nodes nodes2 k n → KeepsOtherNodes references references2 n k
    → AreListed names references2 nodes2
cleared_listed names references references2 nodes nodes2 k n are clears keeps = record {
  listed = λ j m f e. keeps m j (other j m f e) (are.listed j m f (was j m f e));
  named = λ j m f e. are.named j m f (was j m f e);
  small = λ j m f e. are.small j m f (was j m f e);
}
  where
    other : (j m f : ℕ) → get (postings_at nodes2 j) m ≡ Some f → ((m ≡ n) × (j ≡ k)) → ⊥
    other j m f e both =
        let none : get (postings_at nodes2 j) m ≡ None = ap (λ x. get (postings_at nodes2 x) m) both.1
        ∙ ap (λ P. get P m) clears.here ∙ ap (get (remove (postings_at nodes k) n)) both.0
        ∙ removed_here (postings_at nodes k) n in
        cc

    was : (j m f : ℕ) → get (postings_at nodes2 j) m ≡ Some f → get (postings_at nodes j) m ≡ Some f
    was j m f e = elim (cases_eq j k) [
      | inr apart ↦ ap (λ P. get P m) (sym (clears.elsewhere j apart)) ∙ e
      | inl same ↦ elim (cases_eq m n) [
        | inl is ↦ absurd (other j m f e (is, same))
        | inr apart ↦
            ap (λ x. get (postings_at nodes x) m) same ∙ sym (removed_other (postings_at nodes k) n m apart)
            ∙ ap (λ P. get P m) (sym clears.here) ∙ ap (λ x. get (postings_at nodes2 x) m) (sym same) ∙ e
      ]
    ]

module _ (root : Pairs) (nodes : List Node) (trie : IsTrie root nodes) (names : Names) (nodes2 : List Node) (t : Text)
    (r : Bytes) (removes : RemovesPosting root names nodes nodes2 t r) where
  pub removed_trie : IsTrie root nodes2
  removed_trie = settled_trie root nodes trie nodes2 removes.shape

  steps : (s : Text) → walk (step_of root nodes2) Root s ≡ walk (step_of root nodes) Root s
  steps s = same_walk root nodes trie nodes2 removes.shape s

  removed_known : (s : Text) → knows (table_of root nodes2 names) s ≡ knows (table_of root nodes names) s
  removed_known s = knows_walk root nodes2 removed_trie names s ∙ ap is_some (steps s)
      ∙ sym (knows_walk root nodes trie names s)

  removed_gone : posting (table_of root nodes2 names) t r ≡ None
  removed_gone = by (walk (step_of root nodes) Root t) refl
    where
      by : (o : Option Place) → walk (step_of root nodes) Root t ≡ o → posting (table_of root nodes2 names) t r ≡ None
      by None e = posting_none root nodes2 removed_trie names t r (steps t ∙ e)
      by (Some Root) e = posting_walk root nodes2 removed_trie names t Root r (steps t ∙ e)
          ∙ bare_root names r _ refl root nodes2
      by (Some (At k)) e = posting_walk root nodes2 removed_trie names t (At k) r (steps t ∙ e) ∙ removes.gone k e

  removed_others : (s : Text) (q : Bytes) → ¬ ((s ≡ t) × (q ≡ r)) → posting (table_of root nodes2 names) s q
      ≡ posting (table_of root nodes names) s q
  removed_others s q other = by (walk (step_of root nodes) Root s) refl
    where
      same : (p : Place) → walk (step_of root nodes) Root s ≡ Some p → at names q (entries_at root nodes2 p)
          ≡ at names q (entries_at root nodes p)
      same Root e = bare_root names q _ refl root nodes2 ∙ sym (bare_root names q _ refl root nodes)
      same (At k) e = removes.others k q (λ both. other (
        one_path (step_of root nodes) (length nodes) trie.forest s t
            (At k) e both.0,
        both.1,
      ))

      by : (o : Option Place) → walk (step_of root nodes) Root s ≡ o → posting (table_of root nodes2 names) s q
          ≡ posting (table_of root nodes names) s q
      by None e = posting_none root nodes2 removed_trie names s q (steps s ∙ e)
          ∙ sym (posting_none root nodes trie names s q e)
      by (Some p) e = posting_walk root nodes2 removed_trie names s p q (steps s ∙ e) ∙ same p e
          ∙ sym (posting_walk root nodes trie names s p q e)

  pub removed : RemovesToken (table_of root nodes names) (table_of root nodes2 names) t r
  removed = record { known = removed_known; gone = removed_gone; others = removed_others }
