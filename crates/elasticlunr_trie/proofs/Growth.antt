-- A branch below a place: what the new nodes are.
use Rattle.std.proofs.Common.{◌≡◌, ◌≢◌, ◌^◌, inl, inr, ℕ, zero, suc, ◌+◌, ◌-◌, ◌<◌, ◌≤◌, Bool, true, false, cond, List}
use Rattle.std.proofs.Common.{[], ◌∷◌, ◌++◌, length, IsTrue, Option, option_and_then, Some, None, refl, sym, ap, subst}
use Rattle.std.proofs.Common.{◌∙◌, arith, length-append, ne_eqb, le_refl}
use Rattle.std.specs.Ordering.{nat_cmp}
use Rattle.std.proofs.lemmas.Bool.{cases_lt, cases_eq, eq-eqb}
use Rattle.std.specs.List.{slice_get}
use Rattle.std.specs.Str.{all_scalars}
use mathlib.Core.Bool.{false≢true, ◌&&◌}
use Rattle.std.specs.Prelude.{slice_index}
use Rattle.elasticlunr_error.specs.Text.{Text, Bytes}
use Rattle.elasticlunr_trie_nodes.specs.Table.{AddsToken}
use Rattle.elasticlunr_trie_nodes.specs.Pairs.{Pairs, value_of, IsStrictlySorted}
use Rattle.elasticlunr_trie_nodes.specs.Names.{Names, number_of, at}
use Rattle.elasticlunr_trie_nodes.specs.Nodes.{children_of, entries_of, postings_at, list_at, has, AreListed}
use Rattle.elasticlunr_trie_nodes.specs.Nodes.{KeepsLists}
use Rattle.elasticlunr_trie_nodes.specs.Trie.{Step, rank, children_at, entries_at, step_of, walk, table_of, IsTrie}
use Rattle.elasticlunr_trie_nodes.specs.Trie.{AreCharacters, IsForest, HaveOneParent}
use Rattle.elasticlunr_trie_nodes.specs.Branch.{IsInner, IsBranch, Grows}
use Rattle.elasticlunr_trie_nodes.specs.declared.nodes.Reference.{Reference}
use Rattle.std.specs.FinMap as map
use Rattle.elasticlunr_trie_nodes.proofs.Added.{inserted_here, inserted_other}
use Rattle.elasticlunr_trie_nodes.proofs.Removed.{one_name}
use Rattle.elasticlunr_trie_nodes.proofs.Gap.{sets_only_insert, sorted_insert}
use Rattle.elasticlunr_trie_nodes.proofs.Places.{get_before, get_behind, get_past}
use Rattle.elasticlunr_trie_nodes.proofs.Forest.{same_place, Grown, Chains, AttachesAll, IsBlankFrom, attaches_all}
use Rattle.elasticlunr_trie_nodes.proofs.Forest.{grown, end_of, within, walk_off, walk_after, children_from}
use Rattle.elasticlunr_trie_nodes.proofs.Forest.{one_parent_each}
use Rattle.elasticlunr_trie_nodes.proofs.Adding.{Entered, token_added, posting_none}
use Rattle.elasticlunr_trie_nodes.specs.declared.nodes.Node.{Node}
use Rattle.elasticlunr_trie_nodes.specs.declared.nodes.Place.{Place}
use Rattle.elasticlunr_trie_nodes.specs.declared.nodes.Place.TheVariants.{Root, At}

-- a node that is not made yet has no value_of
pub blank_steps : (root : Pairs) (nodes : List Node) → IsBlankFrom (step_of root nodes) (length nodes)
blank_steps root nodes k d h = ap (λ n. value_of (children_of n) d) (get_past nodes k h)

one_child : (c d k : ℕ) → (d ≡ c → ⊥) → value_of ((c, k) ∷ []) d ≡ None
one_child c d k apart = ap (λ b. cond b (Some k) None) (ne_eqb c d (λ e. apart (sym e)))

own_child : (c k : ℕ) → value_of ((c, k) ∷ []) c ≡ Some k
own_child c k = ap (λ b. cond b (Some k) None) (eq-eqb c c refl)

short_sorted : (c k : ℕ) → IsStrictlySorted ((c, k) ∷ [])
short_sorted c k i j lt in_range = absurd (omega arith)

none_sorted : IsStrictlySorted []
none_sorted i j lt in_range = absurd (omega arith)

pub end_of_at : (cs : Text) (n : ℕ) → end_of (At n) (suc n) cs ≡ At (n + length cs)
end_of_at [] n = ap At (omega arith)
end_of_at (c ∷ cs) n = end_of_at cs (suc n) ∙ ap At (omega arith)

-- scalars
scalar_first : (c : ℕ) (cs : Text) → all_scalars (c ∷ cs) ≡ true → all_scalars (c ∷ []) ≡ true
scalar_first c cs h = front _ _ h
  where
    front : (a b : Bool) → (a && b) ≡ true → (a && true) ≡ true
    front true b e = refl
    front false b e = e

scalars_behind : (c : ℕ) (cs : Text) → all_scalars (c ∷ cs) ≡ true → all_scalars cs ≡ true
scalars_behind c cs h = behind _ _ h
  where
    behind : (a b : Bool) → (a && b) ≡ true → b ≡ true
    behind true b e = e
    behind false b e = absurd (false≢true e)

letter_scalar : (cs : Text) → all_scalars cs ≡ true → (j : ℕ) → j < length cs → all_scalars (slice_index cs j ∷ [])
    ≡ true
letter_scalar [] h j lt = absurd (omega arith)
letter_scalar (c ∷ cs) h zero lt = scalar_first c cs h
letter_scalar (c ∷ cs) h (suc j) lt = letter_scalar cs (scalars_behind c cs h) j (omega arith)

-- the nodes of the branch from m on make a path
chain_branch : (cs : Text) (front : List Node) (leaf : Node) (from : Step) (root2 : Pairs) (nodes2 : List Node)
    (m n : ℕ) → n ≤ m → IsBlankFrom from n → ((k j : ℕ) → k ≡ m + j → slice_get nodes2 k
    ≡ slice_get (front ++ leaf ∷ []) j) → IsInner (suc m) cs front → leaf.children.items ≡ []
    → Chains from (step_of root2 nodes2) (At m) (suc m) cs
chain_branch [] [] leaf from root2 nodes2 m n up blank there inner none = λ d. ap (λ o. value_of (children_of o) d)
    (there m 0 (omega arith)) ∙ ap (λ es. value_of es d) none ∙ sym (blank m d up)
chain_branch [] (f ∷ front) leaf from root2 nodes2 m n up blank there inner none = absurd (omega (arith, inner.count))
chain_branch (c ∷ cs) [] leaf from root2 nodes2 m n up blank there inner none = absurd (omega (arith, inner.count))
chain_branch (c ∷ cs) (f ∷ front) leaf from root2 nodes2 m n up blank there inner none =
    let here : children_of (slice_get nodes2 m) ≡ (c, suc m + 0) ∷ [] = ap children_of (there m 0 (omega arith))
    ∙ inner.children 0 (omega arith) in (
      ap (λ es. value_of es c) here ∙ own_child c (suc m + 0) ∙ ap Some (omega arith),
      (λ d apart. ap (λ es. value_of es d) here ∙ one_child c d (suc m + 0) apart ∙ sym (blank m d up)),
      chain_branch cs front leaf from root2 nodes2 (suc m) n (omega arith) blank
          (λ k j e. there k (suc j) (omega arith))
          (record {
            count = omega (arith, inner.count);
            children = λ j lt. inner.children (suc j) (omega arith) ∙ (λ i. (slice_index cs j, sums j i) ∷ []);
            no_entries = λ j. inner.no_entries (suc j);
          }) none,
    )
  where
    sums : (j : ℕ) → suc m + suc j ≡ suc (suc m) + j
    sums j = omega arith

module _ (root : Pairs) (nodes : List Node) (trie : IsTrie root nodes) (root2 : Pairs) (nodes2 : List Node) (p : Place)
    (front : Text) (c : ℕ) (cs : Text) (number m : ℕ) (branch : List Node)
    (leads : walk (step_of root nodes) Root front ≡ Some p) (free : value_of (children_at root nodes p) c ≡ None)
    (grows : Grows root nodes root2 nodes2 p c branch) (made : IsBranch (suc (length nodes)) cs number m branch)
    (letters : all_scalars (c ∷ cs) ≡ true) where
  low : rank p ≤ length nodes
  low = within (step_of root nodes) (length nodes) trie.forest front Root p (omega arith) leads

  lines : length branch ≡ length cs + 1
  lines = ap length made.split ∙ length-append made.front (made.leaf ∷ []) ∙ ap (λ k. k + 1) made.inner.count

  there : (k j : ℕ) → k ≡ length nodes + j → slice_get nodes2 k ≡ slice_get (made.front ++ made.leaf ∷ []) j
  there k j e = ap (slice_get nodes2) e ∙ grows.fresh j ∙ ap (λ ns. slice_get ns j) made.split

  branch_chains : Chains (step_of root nodes) (step_of root2 nodes2) p (length nodes) (c ∷ cs)
  branch_chains =
      let sets = sets_only_insert (children_at root nodes p) c grows.gains.0 grows.gains.1 (length nodes) in (
        ap (λ es. value_of es c) grows.gains.2 ∙ sets.this_key,
        (λ d apart. ap (λ es. value_of es d) grows.gains.2 ∙ sets.other_keys d apart),
        chain_branch cs made.front made.leaf (step_of root nodes) root2 nodes2 (length nodes) (length nodes)
            (le_refl (length nodes)) (blank_steps root nodes) there made.inner made.no_children,
      )

  past_end : (q : Place) (d : ℕ) → length nodes + length (c ∷ cs) < rank q → step_of root2 nodes2 q d
      ≡ step_of root nodes q d
  past_end Root d high = absurd (omega arith)
  past_end (At k) d high =
      ap (λ o. value_of (children_of o) d) (get_past nodes2 k (omega (arith, grows.count, lines)))
      ∙ sym (ap (λ o. value_of (children_of o) d) (get_past nodes k (omega arith)))

  branch_attached : AttachesAll (step_of root nodes) (step_of root2 nodes2) p (length nodes) (c ∷ cs)
  branch_attached = attaches_all (c ∷ cs) (step_of root nodes) (step_of root2 nodes2) p (length nodes) low branch_chains
      (λ q d apart under. ap (λ es. value_of es d) (grows.children q apart under)) past_end

  branch_grown : Grown (step_of root nodes) (step_of root2 nodes2) (length nodes) front (c ∷ cs) p
  branch_grown = grown (c ∷ cs) front (step_of root nodes) (step_of root2 nodes2) (length nodes) p trie.forest
      (blank_steps root nodes) leads
      (λ d rest e. let letter : c ≡ d = (cc) in subst (λ x. value_of (children_at root nodes p) x ≡ None) letter free)
      branch_attached

  -- where a text led, it still leads
  pub branch_paths : (s : Text) (q : Place) → walk (step_of root nodes) Root s ≡ Some q
      → walk (step_of root2 nodes2) Root s ≡ Some q
  branch_paths s q e = elim (branch_grown.others s) [
    | inl same ↦ same ∙ e
    | inr new ↦ let none : walk (step_of root nodes) Root s ≡ None = new.3 in absurd (cc)
  ]

  leaf_sorted : (j : ℕ) → IsStrictlySorted (children_of (slice_get (made.leaf ∷ []) j))
  leaf_sorted zero = subst IsStrictlySorted (sym made.no_children) none_sorted
  leaf_sorted (suc j) = none_sorted

  branch_sorted : (j : ℕ) → IsStrictlySorted (children_of (slice_get (made.front ++ made.leaf ∷ []) j))
  branch_sorted j = elim (cases_lt j (length made.front)) [
    | inl before ↦ subst IsStrictlySorted (sym (ap children_of (get_before made.front (made.leaf ∷ []) j before)
        ∙ made.inner.children j (omega (arith, made.inner.count))))
        (short_sorted (slice_index cs j) (suc (length nodes) + j))
    | inr behind ↦ subst IsStrictlySorted (sym
        (ap children_of (get_behind made.front (made.leaf ∷ []) j (j - length made.front) (omega arith))))
        (leaf_sorted (j - length made.front))
  ]

  in_order : (q : Place) → IsStrictlySorted (children_at root2 nodes2 q)
  in_order q = elim (same_place q p) [
    | inl same ↦ subst (λ x. IsStrictlySorted (children_at root2 nodes2 x)) (sym same)
        (subst IsStrictlySorted (sym grows.gains.2) (sorted_insert (children_at root nodes p) c grows.gains.0
        grows.gains.1 (length nodes) (trie.in_order p)))
    | inr apart ↦ by q apart
  ]
    where
      by : (q : Place) → q ≢ p → IsStrictlySorted (children_at root2 nodes2 q)
      by Root apart = subst IsStrictlySorted (sym (grows.children Root apart (omega arith))) (trie.in_order Root)
      by (At k) apart = elim (cases_lt k (length nodes)) [
        | inl old ↦ subst IsStrictlySorted (sym (grows.children (At k) apart (omega arith))) (trie.in_order (At k))
        | inr new ↦ subst IsStrictlySorted (sym (ap children_of (there k (k - length nodes) (omega arith))))
            (branch_sorted (k - length nodes))
      ]

  short_character : (x n : ℕ) → all_scalars (x ∷ []) ≡ true → AreCharacters ((x, n) ∷ [])
  short_character x n is d k e = elim (cases_eq x d) [
    | inl same ↦ subst (λ y. all_scalars (y ∷ []) ≡ true) same is
    | inr apart ↦ let none = sym (one_child x d n (λ h. apart (sym h))) ∙ e in absurd (cc)
  ]

  no_characters : AreCharacters []
  no_characters d k e = absurd (cc)

  leaf_character : (j : ℕ) → AreCharacters (children_of (slice_get (made.leaf ∷ []) j))
  leaf_character zero = subst AreCharacters (sym made.no_children) no_characters
  leaf_character (suc j) = no_characters

  branch_character : (j : ℕ) → AreCharacters (children_of (slice_get (made.front ++ made.leaf ∷ []) j))
  branch_character j = elim (cases_lt j (length made.front)) [
    | inl before ↦ subst AreCharacters (sym (ap children_of (get_before made.front (made.leaf ∷ []) j before)
        ∙ made.inner.children j (omega (arith, made.inner.count))))
        (short_character (slice_index cs j) (suc (length nodes) + j)
        (letter_scalar cs (scalars_behind c cs letters) j (omega (arith, made.inner.count))))
    | inr behind ↦ subst AreCharacters (sym
        (ap children_of (get_behind made.front (made.leaf ∷ []) j (j - length made.front) (omega arith))))
        (leaf_character (j - length made.front))
  ]

  more_characters : AreCharacters (children_at root2 nodes2 p)
  more_characters d k e =
      let sets = sets_only_insert (children_at root nodes p) c grows.gains.0 grows.gains.1 (length nodes) in
      elim (cases_eq d c) [
        | inl same ↦ subst (λ y. all_scalars (y ∷ []) ≡ true) (sym same) (scalar_first c cs letters)
        | inr apart ↦ trie.characters p d k (sym (ap (λ es. value_of es d) grows.gains.2 ∙ sets.other_keys d apart) ∙ e)
      ]

  characters : (q : Place) → AreCharacters (children_at root2 nodes2 q)
  characters q = elim (same_place q p) [
    | inl same ↦ subst (λ x. AreCharacters (children_at root2 nodes2 x)) (sym same) more_characters
    | inr apart ↦ by q apart
  ]
    where
      by : (q : Place) → q ≢ p → AreCharacters (children_at root2 nodes2 q)
      by Root apart = subst AreCharacters (sym (grows.children Root apart (omega arith))) (trie.characters Root)
      by (At k) apart = elim (cases_lt k (length nodes)) [
        | inl old ↦ subst AreCharacters (sym (grows.children (At k) apart (omega arith))) (trie.characters (At k))
        | inr new ↦ subst AreCharacters (sym (ap children_of (there k (k - length nodes) (omega arith))))
            (branch_character (k - length nodes))
      ]

  pub branch_trie : IsTrie root2 nodes2
  branch_trie = record {
    in_order = in_order;
    forest = subst (λ k. IsForest (step_of root2 nodes2) k) (omega (arith, grows.count, lines)) branch_grown.forest;
    characters = characters;
  }

  pub branch_parents : HaveOneParent (step_of root nodes) (length nodes)
      → HaveOneParent (step_of root2 nodes2) (length nodes2)
  branch_parents parents =
      one_parent_each (step_of root2 nodes2) (length nodes2) (length nodes2) branch_trie.forest
      (λ k lt. branch_grown.children (children_from (step_of root nodes) (length nodes) parents) k
      (omega (arith, grows.count, lines)))

  end_is : end_of p (length nodes) (c ∷ cs) ≡ At (length nodes + length cs)
  end_is = end_of_at cs (length nodes)

  end_entries : entries_at root2 nodes2 (end_of p (length nodes) (c ∷ cs)) ≡ map.insert map.empty number m
  end_entries =
      ap (entries_at root2 nodes2) end_is ∙ ap entries_of (there (length nodes + length cs) (length cs) refl
      ∙ get_behind made.front (made.leaf ∷ []) (length cs) 0 (omega (arith, made.inner.count))) ∙ made.posting

  beyond : (i : ℕ) → (i ≡ 0 → ⊥) → entries_of (slice_get (made.leaf ∷ []) i) ≡ map.empty
  beyond zero apart = absurd (apart refl)
  beyond (suc i) apart = refl

  -- the other new nodes have no postings
  bare : (k : ℕ) → length nodes ≤ k → At k ≢ end_of p (length nodes) (c ∷ cs) → entries_at root2 nodes2 (At k)
      ≡ map.empty
  bare k up apart = ap entries_of (there k (k - length nodes) (omega arith))
      ∙ elim (cases_lt (k - length nodes) (length made.front)) [
        | inl before ↦ ap entries_of (get_before made.front (made.leaf ∷ []) (k - length nodes) before)
            ∙ made.inner.no_entries (k - length nodes)
        | inr behind ↦ ap entries_of (get_behind made.front (made.leaf ∷ []) (k - length nodes)
            (k - length nodes - length made.front) (omega arith))
            ∙ beyond (k - length nodes - length made.front)
            (λ e. apart (ap At (omega (arith, made.inner.count)) ∙ sym end_is))
      ]

  module _ (names names2 : Names) (references references2 : List Reference) (are : AreListed names references nodes)
      (more : length names ≤ length names2) (keeps : KeepsLists references references2)
      (below : number < length names2) (fits : m < 2 ^ 64)
      (listed : IsTrue (has (list_at references2 number) (length nodes + length cs))) where
    pub branch_listed : AreListed names2 references2 nodes2
    branch_listed = record {
      listed = λ k n f e. (each k n f e).0;
      named = λ k n f e. (each k n f e).1;
      small =
          λ k n f e. (each k n f e).2;
    }
      where
        each : (k n f : ℕ) → map.get (postings_at nodes2 k) n ≡ Some f → IsTrue (has (list_at references2 n) k)
            × (n < length names2) × (f < 2 ^ 64)
        each k n f e = elim (cases_lt k (length nodes)) [
          | inl old ↦
              let was : map.get (postings_at nodes k) n
              ≡ Some f = ap (λ P. map.get P n) (sym (grows.entries (At k) (omega arith))) ∙ e in
              (keeps n k (are.listed k n f was), omega (arith, are.named k n f was), are.small k n f was)
          | inr new ↦ elim (cases_eq k (length nodes + length cs)) [
            | inr apart ↦
                let none : map.get (postings_at nodes2 k) n
                ≡ None = ap (λ P. map.get P n) (bare k new (λ h. let both : At k ≡ At (length nodes + length cs) =
                h ∙ end_is in apart (cc))) ∙ map.get-empty nat_cmp n in
                absurd (cc)
            | inl same ↦
                let there : map.get (map.insert (map.empty {R = nat_cmp}) number m) n
                ≡ Some f = ap (λ P. map.get P n) (sym end_entries
                ∙ ap (entries_at root2 nodes2) (end_is ∙ ap At (sym same))) ∙ e in
                elim (cases_eq n number) [
                  | inr other ↦
                      let none : map.get (map.insert (map.empty {R = nat_cmp}) number m) n
                      ≡ None = inserted_other map.empty number m n other ∙ map.get-empty nat_cmp n in
                      absurd (cc)
                  | inl is ↦
                      let value : Some m ≡ Some f = sym (inserted_here map.empty number m)
                      ∙ ap (λ x. map.get (map.insert (map.empty {R = nat_cmp}) number m) x) (sym is) ∙ there in
                      let equal : m ≡ f = cc in
                      (rw (is, same) listed, omega arith, omega arith)
                ]
          ]
        ]

  module _ (names names2 : Names) (r : Bytes) (numbered : number_of names2 r ≡ Some number)
      (kept : (q : Place) (u : Bytes) → at names2 u (entries_at root nodes q) ≡ at names u (entries_at root nodes q))
    where
      none_at : (u : Bytes) (o : Option ℕ) → number_of names2 u ≡ o → at names2 u map.empty ≡ None
      none_at u None e = ap (λ o. option_and_then (λ n. map.get (map.empty {R = nat_cmp}) n) o) e
      none_at u (Some n) e = ap (λ o. option_and_then (λ n. map.get (map.empty {R = nat_cmp}) n) o) e
          ∙ map.get-empty nat_cmp n

      others_none : (u : Bytes) → u ≢ r → (o : Option ℕ) → number_of names2 u ≡ o
          → at names2 u (map.insert map.empty number m) ≡ None
      others_none u apart None e = ap (λ o. option_and_then (λ n. map.get (map.insert (map.empty {R = nat_cmp}) number m)
          n) o) e
      others_none u apart (Some n) e =
          ap (λ o. option_and_then (λ n. map.get (map.insert (map.empty {R = nat_cmp}) number m) n) o) e
          ∙ inserted_other map.empty number m n (λ is. apart (one_name names2 u r number (e ∙ ap Some is) numbered))
          ∙ map.get-empty nat_cmp n

      branch_entered : Entered names names2 root nodes root2 nodes2 (length nodes) (front ++ c ∷ cs)
          (end_of p (length nodes) (c ∷ cs)) r m
      branch_entered = record {
        old = λ s q e apart u. ap (at names2 u)
            (grows.entries q (within (step_of root nodes) (length nodes) trie.forest s Root q (omega arith) e))
            ∙ kept q u;
        fresh = λ k up apart u. ap (at names2 u) (bare k up apart) ∙ none_at u _ refl;
        here = ap (at names2 r) end_entries ∙ ap
            (λ o. option_and_then (λ n. map.get (map.insert (map.empty {R = nat_cmp}) number m) n) o) numbered
            ∙ inserted_here map.empty number m;
        others = λ q apart. ap (at names2 q) end_entries ∙ others_none q apart _ refl
            ∙ sym (posting_none root nodes trie names (front ++ c ∷ cs) q
            (walk_after (step_of root nodes) front (c ∷ cs) Root p leads
            ∙ walk_off (step_of root nodes) p c cs free));
      }

      pub branch_added : AddsToken (table_of root nodes names) (table_of root2 nodes2 names2) (front ++ c ∷ cs) r m
      branch_added = token_added root nodes trie root2 nodes2 branch_trie names names2 (length nodes) front (c ∷ cs) p r m
          branch_grown branch_entered
