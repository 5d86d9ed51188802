-- Nodes for a new path.
use Rattle.std.proofs.Common.{◌≡◌, inl, inr, ℕ, zero, suc, ◌+◌, ◌-◌, ◌<◌, List, [], ◌∷◌, ◌++◌, length, get_or, set}
use Rattle.std.proofs.Common.{refl, sym, ap, subst, ◌∙◌, arith, length-append}
use Rattle.std.proofs.lemmas.List.{get_or_append_left, length-set}
use Rattle.std.proofs.Math.Seq.{get_or-append_seam}
use Rattle.std.proofs.lemmas.Bool.{cases_eq, cases_lt}
use Rattle.std.specs.List.{slice_get}
use Rattle.std.specs.FinMap as map
use Rattle.elasticlunr_error.specs.Text.{Text}
use Rattle.elasticlunr_trie_nodes.specs.Nodes.{children_of, entries_of}
use Rattle.elasticlunr_trie_nodes.specs.Branch.{IsInner, HasBranch, KeepsOtherChildren}
use Rattle.elasticlunr_trie_nodes.proofs.Places.{get_before, get_behind, get_set, get_set_other}
use Rattle.elasticlunr_trie_nodes.specs.declared.nodes.Node.{Node}

pub no_nodes : (n : ℕ) → IsInner n [] []
no_nodes n = record { count = refl; children = λ j lt. absurd (omega arith); no_entries = λ j. refl }

-- one more node after the others
pub inner_push : (n : ℕ) (cs : Text) (front : List Node) (c : ℕ) (node : Node) → IsInner n cs front
    → node.children.items ≡ (c, n + length front) ∷ [] → node.postings ≡ map.empty
    → IsInner n (cs ++ c ∷ []) (front ++ node ∷ [])
inner_push n cs front c node inner children none = record {
  count = length-append front (node ∷ []) ∙ ap (λ k. k + 1) inner.count ∙ sym (length-append cs (c ∷ []));
  children = λ j lt. elim (cases_lt j (length cs)) [
    | inl before ↦
        ap children_of (get_before front (node ∷ []) j (omega (arith, inner.count))) ∙ inner.children j before
        ∙ ap (λ x. (x, n + j) ∷ []) (sym (get_or_append_left cs (c ∷ []) 0 j before))
    | inr behind ↦
        let last : j ≡ length cs = omega (arith, length-append cs (c ∷ [])) in
        let at : j ≡ length front = last ∙ sym inner.count in
        let letter : get_or (cs ++ c ∷ []) j 0 ≡ c = ap (λ x. get_or (cs ++ c ∷ []) x 0) last
        ∙ get_or-append_seam cs c [] 0 in
        ap children_of (get_behind front (node ∷ []) j 0 (omega (arith, at))) ∙ children
        ∙ (λ i. (sym letter i, n + sym at i) ∷ [])
  ];
  no_entries = λ j. elim (cases_lt j (length front)) [
    | inl before ↦ ap entries_of (get_before front (node ∷ []) j before) ∙ inner.no_entries j
    | inr behind ↦ ap entries_of (get_behind front (node ∷ []) j (j - length front) (omega arith))
        ∙ beyond (j - length front)
  ];
}
  where
    beyond : (i : ℕ) → entries_of (slice_get (node ∷ []) i) ≡ map.empty
    beyond zero = none
    beyond (suc i) = refl

-- nodes with another node at k, which has the postings of the old one, and with a branch after them
module _ (old branch new : List Node) (k : ℕ) (node : Node) (lt : k < length old) (same : node.postings
    ≡ entries_of (slice_get old k)) (is : new ≡ set old k node ++ branch) where
  before : (j : ℕ) → j < length old → slice_get new j ≡ slice_get (set old k node) j
  before j there = ap (λ ns. slice_get ns j) is
      ∙ get_before (set old k node) branch j (subst (λ n. j < n) (sym (length-set old k node)) there)

  kept : (j : ℕ) → entries_of (slice_get (set old k node) j) ≡ entries_of (slice_get old j)
  kept j = elim (cases_eq j k) [
    | inl here ↦ ap (λ i. entries_of (slice_get (set old k node) i)) here ∙ ap entries_of (get_set old k node lt) ∙ same
        ∙ ap (λ i. entries_of (slice_get old i)) (sym here)
    | inr apart ↦ ap entries_of (get_set_other old j k node apart)
  ]

  pub has_branch : HasBranch old new branch
  has_branch = record {
    count = ap length is ∙ length-append (set old k node) branch ∙ ap (λ n. n + length branch) (length-set old k node);
    fresh = λ j. ap (λ ns. slice_get ns (length old + j)) is ∙ get_behind (set old k node) branch (length old + j) j
        (ap (λ n. n + j) (sym (length-set old k node)));
    entries = λ j there. ap entries_of (before j there) ∙ kept j;
  }

  pub other_children : KeepsOtherChildren old new k
  other_children j there apart = ap children_of (before j there ∙ get_set_other old j k node apart)

  pub new_children : children_of (slice_get new k) ≡ node.children.items
  new_children = ap children_of (before k lt ∙ get_set old k node lt)
