-- The postings of a reference are taken away, at the nodes that it lists.
use Rattle.std.proofs.Common.{◌≡◌, ◌≢◌, inl, inr, ℕ, suc, ◌+◌, ◌<◌, ◌≤◌, Bool, true, false, cond, eqb, ne_eqb, IsTrue}
use Rattle.std.proofs.Common.{List, [], ◌∷◌, length, slice_index, Option, Some, None, option_map, option_and_then, refl}
use Rattle.std.proofs.Common.{sym, ap, subst, ◌∙◌, arith, bytes_eq}
use mathlib.Core.Bool.{false≢true}
use Rattle.std.specs.List.{slice_get}
use Rattle.std.specs.FinMap.{get, remove, get-remove, get-empty}
use Rattle.std.specs.Ordering.{nat_cmp}
use Rattle.std.proofs.lemmas.Bool.{cases_eq, eq-eqb}
use Rattle.std.proofs.lemmas.Cmp.{nat_cmp_total}
use Rattle.std.proofs.lemmas.Slice.Eq.{bytes_eq-Decides}
use Rattle.elasticlunr_trie_nodes.specs.Frequencies.{Frequencies}
use Rattle.elasticlunr_trie_nodes.specs.Names.{Names, number_of}
use Rattle.elasticlunr_trie_nodes.specs.Nodes.{entries_of, postings_at, list_at, has, AreListed, ClearsNumber}
use Rattle.elasticlunr_trie_nodes.specs.Nodes.{LosesListed, LosesNumber, LosesReference}
use Rattle.elasticlunr_error.specs.Text.{Bytes}
use Rattle.elasticlunr_trie_nodes.specs.declared.nodes.Node.{Node}
use Rattle.elasticlunr_trie_nodes.specs.declared.nodes.Reference.{Reference}
use Rattle.elasticlunr_trie_nodes.proofs.Places.{get_past}
use Rattle.elasticlunr_trie_nodes.proofs.Frequencies.{ties}

removed_at : (P : Frequencies) (n m : ℕ) → get (remove P n) m ≡ cond (eqb n m) None (get P m)
removed_at P n m = get-remove nat_cmp_total P n m ∙ ap (λ b. cond b None (get P m)) (ties m n)

pub removed_here : (P : Frequencies) (n : ℕ) → get (remove P n) n ≡ None
removed_here P n = removed_at P n n ∙ ap (λ b. cond b None (get P n)) (eq-eqb n n refl)

pub removed_other : (P : Frequencies) (n m : ℕ) → m ≢ n → get (remove P n) m ≡ get P m
removed_other P n m apart = removed_at P n m ∙ ap (λ b. cond b None (get P m)) (ne_eqb n m (λ e. apart (sym e)))

-- a node that is listed stands at a place of the list
pub has_place : (js : List ℕ) (k : ℕ) → IsTrue (has js k) → (j : ℕ) × (j < length js) × (slice_index js j ≡ k)
has_place [] k h = absurd (false≢true h)
has_place (j ∷ js) k h = elim (cases_eq j k) [
  | inl same ↦ (0, omega arith, same)
  | inr apart ↦
      let rest : IsTrue (has js k) = rw (ne_eqb j k apart) at h in
      let place = has_place js k rest in
      (suc place.0, omega (arith, place.1), place.2)
]

module _ (old : List Node) (list : List ℕ) (n : ℕ) where
  pub loses_none : LosesListed old old list 0 n
  loses_none = record {
    shape = record { count = refl; children = λ k. refl };
    gone = λ j lt. absurd (omega arith);
    stays_gone = λ k none. none;
    others = λ k m other. refl;
  }

  module _ (mid : List Node) (i : ℕ) (so_far : LosesListed old mid list i n) where
    -- one more node of the list
    pub loses_step : (new : List Node) → ClearsNumber mid new (slice_index list i) n
        → LosesListed old new list (i + 1) n
    loses_step new clears = record {
      shape = record {
        count = clears.shape.count ∙ so_far.shape.count;
        children = λ k. clears.shape.children k
            ∙ so_far.shape.children k;
      };
      gone = λ j lt. elim (cases_eq (slice_index list j) (slice_index list i)) [
        | inl same ↦ subst (λ x. get (postings_at new x) n ≡ None) (sym same) (ap (λ P. get P n) clears.here
            ∙ removed_here _ n)
        | inr apart ↦ ap (λ P. get P n) (clears.elsewhere _ apart) ∙ so_far.gone j (before j lt apart)
      ];
      stays_gone = λ k none. elim (cases_eq k (slice_index list i)) [
        | inl same ↦ subst (λ x. get (postings_at new x) n ≡ None) (sym same) (ap (λ P. get P n) clears.here
            ∙ removed_here _ n)
        | inr apart ↦ ap (λ P. get P n) (clears.elsewhere k apart) ∙ so_far.stays_gone k none
      ];
      others = λ k m other. elim (cases_eq k (slice_index list i)) [
        | inl same ↦ subst (λ x. get (postings_at new x) m ≡ get (postings_at old x) m) (sym same)
            (ap (λ P. get P m) clears.here ∙ removed_other _ n m other ∙ so_far.others _ m other)
        | inr apart ↦ ap (λ P. get P m) (clears.elsewhere k apart) ∙ so_far.others k m other
      ];
    }
      where
        before : (j : ℕ) → j < i + 1 → slice_index list j ≢ slice_index list i → j < i
        before j lt apart = elim (cases_eq j i) [
          | inl same ↦ absurd (apart (ap (slice_index list) same))
          | inr other ↦
              omega arith
        ]

    -- a listed number that no node has
    pub loses_skip : length mid ≤ slice_index list i → LosesListed old mid list (i + 1) n
    loses_skip past = record {
      shape = so_far.shape;
      gone = λ j lt. elim (cases_eq j i) [
        | inl same ↦ subst (λ x. get (postings_at mid (slice_index list x)) n ≡ None) (sym same)
            (ap (λ o. get (entries_of o) n) (get_past mid _ past) ∙ get-empty nat_cmp n)
        | inr other ↦ so_far.gone j (omega arith)
      ];
      stays_gone = so_far.stays_gone;
      others = so_far.others;
    }

  -- all nodes of the list, and so all nodes
  pub loses_all : (new : List Node) (i : ℕ) → LosesListed old new list i n → length list ≤ i
      → ((k f : ℕ) → get (postings_at old k) n ≡ Some f → IsTrue (has list k)) → LosesNumber old new n
  loses_all new i so_far all listed = record {
    shape = so_far.shape;
    gone = λ k. by k (get (postings_at old k) n) refl;
    others = so_far.others;
  }
    where
      by : (k : ℕ) (o : Option ℕ) → get (postings_at old k) n ≡ o → get (postings_at new k) n ≡ None
      by k None e = so_far.stays_gone k e
      by k (Some f) e =
          let place = has_place list k (listed k f e) in
          subst (λ x. get (postings_at new x) n ≡ None) place.2 (so_far.gone place.0 (omega (arith, place.1)))

-- a number has one name
named_behind : (name : Bytes) (names : Names) (r : Bytes) (n : ℕ) (b : Bool) (o : Option ℕ) → bytes_eq name r ≡ b
    → ((m : ℕ) → o ≡ Some m → slice_get names m ≡ Some r) → cond b (Some 0) (option_map suc o) ≡ Some n
    → slice_get (name ∷ names) n ≡ Some r
named_behind name names r n true o same rest h =
    let first : 0 ≡ n = cc in
    subst (λ x. slice_get (name ∷ names) x ≡ Some r) first (ap Some ((bytes_eq-Decides name r).0 same))
named_behind name names r n false None same rest h = absurd (cc)
named_behind name names r n false (Some m) same rest h =
    let later : suc m ≡ n = cc in
    subst (λ x. slice_get (name ∷ names) x ≡ Some r) later (rest m refl)

pub number-name : (names : Names) (r : Bytes) (n : ℕ) → number_of names r ≡ Some n → slice_get names n ≡ Some r
number-name [] r n e = absurd (cc)
number-name (name ∷ names) r n e = named_behind name names r n (bytes_eq name r) (number_of names r) refl
    (number-name names r) e

pub one_name : (names : Names) (q r : Bytes) (n : ℕ) → number_of names q ≡ Some n → number_of names r ≡ Some n → q ≡ r
one_name names q r n e f = let both : Some q ≡ Some r = sym (number-name names q n e) ∙ number-name names r n f in cc

module _ (names : Names) (nodes : List Node) (r : Bytes) where
  -- a name without a number has no posting
  pub loses_unknown : number_of names r ≡ None → LosesReference names nodes nodes r
  loses_unknown none = record {
    shape = record { count = refl; children = λ k. refl };
    gone = λ k. ap (λ o. option_and_then (λ n. get (postings_at nodes k) n) o) none;
    others = λ k q other. refl;
  }

  module _ (n : ℕ) (numbered : number_of names r ≡ Some n) where
    pub loses_by_name : (new : List Node) → LosesNumber nodes new n → LosesReference names nodes new r
    loses_by_name new loses = record {
      shape = loses.shape;
      gone = λ k. ap (λ o. option_and_then (λ m. get (postings_at new k) m) o) numbered ∙ loses.gone k;
      others = λ k q other. by k q other (number_of names q) refl;
    }
      where
        by : (k : ℕ) (q : Bytes) → q ≢ r → (o : Option ℕ) → number_of names q ≡ o
            → option_and_then (λ m. get (postings_at new k) m) o ≡ option_and_then (λ m. get (postings_at nodes k) m)
            o
        by k q other None e = refl
        by k q other (Some m) e = loses.others k m (λ same. other (one_name names q r n (e ∙ ap Some same) numbered))

  -- a reference that lists no node has no posting
  pub none_listed : (references : List Reference) (n : ℕ) → AreListed names references nodes → list_at references n ≡ []
      → LosesNumber nodes nodes n
  none_listed references n are none = record {
    shape = record { count = refl; children = λ k. refl };
    gone =
        λ k. by k (get (postings_at nodes k) n) refl;
    others = λ k m other. refl;
  }
    where
      by : (k : ℕ) (o : Option ℕ) → get (postings_at nodes k) n ≡ o → get (postings_at nodes k) n ≡ None
      by k None e = e
      by k (Some f) e = absurd (false≢true (subst (λ js. IsTrue (has js k)) none (are.listed k n f e)))

-- the lists of the other references stay
pub lost_listed : (names : Names) (references references2 : List Reference) (nodes nodes2 : List Node) (n : ℕ)
    → AreListed names references nodes → LosesNumber nodes nodes2 n
    → ((m : ℕ) → m ≢ n → list_at references2 m ≡ list_at references m) → AreListed names references2 nodes2
lost_listed names references references2 nodes nodes2 n are loses lists = record {
  listed = λ k m f e. subst (λ js. IsTrue (has js k)) (sym (lists m (other k m f e))) (are.listed k m f (was k m f e));
  named = λ k m f e. are.named k m f (was k m f e);
  small = λ k m f e. are.small k m f (was k m f e);
}
  where
    other : (k m f : ℕ) → get (postings_at nodes2 k) m ≡ Some f → m ≢ n
    other k m f e same = let none : get (postings_at nodes2 k) m
        ≡ None = subst (λ x. get (postings_at nodes2 k) x ≡ None) (sym same) (loses.gone k) in absurd (cc)

    was : (k m f : ℕ) → get (postings_at nodes2 k) m ≡ Some f → get (postings_at nodes k) m ≡ Some f
    was k m f e = sym (loses.others k m (other k m f e)) ∙ e
