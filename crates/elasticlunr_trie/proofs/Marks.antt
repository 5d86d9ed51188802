-- The marked nodes and their new numbers.
use Rattle.std.proofs.Common.{◌≡◌, inl, inr, ℕ, zero, suc, ◌+◌, ◌<◌, ◌≤◌, Bool, true, false, cond, IsTrue, List, []}
use Rattle.std.proofs.Common.{◌∷◌, ◌++◌, length, take, get_or, unwrap_or, Some, refl, sym, ap, subst, ◌∙◌, arith}
use Rattle.std.proofs.Common.{le_refl}
use Rattle.std.specs.Prelude.{if◌then◌else◌}
use Rattle.std.proofs.Math.Seq.{take-append_seam}
use Rattle.std.proofs.lemmas.Bool.{cases_eq, cases_lt, eq-eqb}
use Rattle.elasticlunr_trie_nodes.specs.Pairs.{key_at, IsStrictlySorted}
use Rattle.elasticlunr_trie.specs.Children.{Children, child}
use Rattle.elasticlunr_trie.specs.Compact.{is_marked, new_number, kept_children}
use Rattle.elasticlunr_trie_nodes.proofs.Places.{get_there}
use Rattle.elasticlunr_trie.proofs.Alike.{sorted_tail, not_again, skip_first}

module _ (marks : List Bool) where
  pub number_next : (k : ℕ) → IsTrue (is_marked marks k) → new_number marks (suc k) ≡ suc (new_number marks k)
  number_next k marked = ap (λ b. new_number marks k + (if b then 1 else 0)) marked ∙ omega arith

  pub number_stays : (k : ℕ) → is_marked marks k ≡ false → new_number marks (suc k) ≡ new_number marks k
  number_stays k unmarked = ap (λ b. new_number marks k + (if b then 1 else 0)) unmarked ∙ omega arith

  not_fewer : (j k : ℕ) → j ≤ k → new_number marks j ≤ new_number marks k
  not_fewer zero zero le = omega arith
  not_fewer (suc j) zero le = absurd (omega arith)
  not_fewer j (suc k) le = elim (cases_eq j (suc k)) [
    | inl same ↦ subst (λ x. new_number marks j ≤ new_number marks x) same (le_refl (new_number marks j))
    | inr apart ↦ omega (arith, not_fewer j k (omega arith))
  ]

  -- marked nodes keep their order
  pub number_below : (j k : ℕ) → j < k → IsTrue (is_marked marks j) → new_number marks j < new_number marks k
  number_below j k lt marked = omega (arith, number_next j marked, not_fewer (suc j) k (omega arith))

  -- no two marked nodes have one number
  pub one_number : (j k : ℕ) → IsTrue (is_marked marks j) → IsTrue (is_marked marks k) → new_number marks j
      ≡ new_number marks k → j ≡ k
  one_number j k one two same = elim (cases_eq j k) [
    | inl e ↦ e
    | inr apart ↦ elim (cases_lt j k) [
      | inl lt ↦ absurd (omega (arith, number_below j k lt one))
      | inr le ↦ absurd (omega (arith, number_below k j (omega arith) two))
    ]
  ]

  -- each new number is that of a marked node
  pub number_from : (n a : ℕ) → a < new_number marks n → (k : ℕ) × (k < n) × IsTrue (is_marked marks k)
      × (new_number marks k ≡ a)
  number_from zero a lt = absurd (omega arith)
  number_from (suc n) a lt = elim (is_marked marks n) as (λ b. is_marked marks n ≡ b → (k : ℕ) × (k < suc n)
      × IsTrue (is_marked marks k) × (new_number marks k ≡ a)) [
        | true ↦ λ marked. elim (cases_lt a (new_number marks n)) [
          | inl before ↦ let from = number_from n a before in (from.0, omega (arith, from.1), from.2, from.3)
          | inr last ↦ (n, omega arith, marked, omega (arith, number_next n marked))
        ]
        | false ↦ λ unmarked. let from = number_from n a (omega (arith, number_stays n unmarked)) in
            (from.0, omega (arith, from.1), from.2, from.3)
      ] refl

  -- a marked child is kept
  pub child_kept : (es : Children) → IsStrictlySorted es → (c k : ℕ) → child es c ≡ Some k → IsTrue (is_marked marks k)
      → child (kept_children marks es) c ≡ Some (new_number marks k)
  child_kept [] sorted c k e marked = absurd (cc)
  child_kept (x ∷ es) sorted c k e marked = elim (cases_eq x.0 c) [
    | inl same ↦
        let is : Some x.1 ≡ Some k = sym (ap (λ b. cond b (Some x.1) (child es c)) (eq-eqb x.0 c same)) ∙ e in
        let number : x.1 ≡ k = cc in
        let mark : is_marked marks x.1 ≡ true = ap (is_marked marks) number ∙ marked in
        ap (λ b. child (if b then (x.0, new_number marks x.1) ∷ kept_children marks es else kept_children marks es) c)
        mark
        ∙ ap (λ b. cond b (Some (new_number marks x.1)) (child (kept_children marks es) c)) (eq-eqb x.0 c same)
        ∙ ap (λ j. Some (new_number marks j)) number
    | inr apart ↦
        let later = child_kept es (sorted_tail x es sorted) c k (sym (skip_first x es c apart) ∙ e) marked in
        elim (is_marked marks x.1) as (λ b. child (if b then (x.0, new_number marks x.1)
        ∷ kept_children marks es else kept_children marks es) c ≡ Some (new_number marks k)) [
          | true ↦ skip_first (x.0, new_number marks x.1) (kept_children marks es) c apart ∙ later
          | false ↦ later
        ]
  ]

  -- each child that is kept is a marked one
  pub kept_child : (es : Children) → IsStrictlySorted es → (c a : ℕ) → child (kept_children marks es) c ≡ Some a
      → (k : ℕ) × (child es c ≡ Some k) × IsTrue (is_marked marks k) × (a ≡ new_number marks k)
  kept_child [] sorted c a e = absurd (cc)
  kept_child (x ∷ es) sorted c a e =
      elim (is_marked marks x.1) as (λ b. is_marked marks x.1 ≡ b
      → child (if b then (x.0, new_number marks x.1) ∷ kept_children marks es else kept_children marks es) c
      ≡ Some a → (k : ℕ) × (child (x ∷ es) c ≡ Some k) × IsTrue (is_marked marks k) × (a ≡ new_number marks k)) [
        | true ↦ λ mark here. elim (cases_eq x.0 c) [
          | inl same ↦
              let is : Some (new_number marks x.1)
              ≡ Some a = sym (ap (λ b. cond b (Some (new_number marks x.1)) (child (kept_children marks es) c))
              (eq-eqb x.0 c same)) ∙ here in
              (x.1, ap (λ b. cond b (Some x.1) (child es c)) (eq-eqb x.0 c same), mark, (cc))
          | inr apart ↦
              let later = kept_child es (sorted_tail x es sorted) c a
              (sym (skip_first (x.0, new_number marks x.1) (kept_children marks es) c apart) ∙ here) in
              (later.0, skip_first x es c apart ∙ later.1, later.2, later.3)
        ]
        | false ↦ λ mark here.
            let later = kept_child es (sorted_tail x es sorted) c a here in
            let apart : x.0 ≡ c → ⊥ = λ same. let none = sym (ap (child es) same) ∙ not_again x es sorted in let some =
            later.1 in absurd (cc) in
            (later.0, skip_first x es c apart ∙ later.1, later.2, later.3)
      ] refl e

  -- the kept children stay in order
  either_above : (x : ℕ) (e : ℕ × ℕ) (es : Children) → x < e.0 → ((j : ℕ) → j < length es → x < key_at es j) → (j : ℕ)
      → j < length (e ∷ es) → x < key_at (e ∷ es) j
  either_above x e es first later zero lt = first
  either_above x e es first later (suc j) lt = later j (omega arith)

  kept_above : (x : ℕ) (es : Children) → ((j : ℕ) → j < length es → x < key_at es j) → (j : ℕ)
      → j < length (kept_children marks es) → x < key_at (kept_children marks es) j
  kept_above x [] above = λ j lt. absurd (omega arith)
  kept_above x (e ∷ es) above =
      let later = kept_above x es (λ i within. above (suc i) (omega arith)) in
      elim (is_marked marks e.1) as (λ b. (j : ℕ)
      → j < length (if b then (e.0, new_number marks e.1) ∷ kept_children marks es else kept_children marks es)
      → x < key_at (if b then (e.0, new_number marks e.1) ∷ kept_children marks es else kept_children marks es) j) [
        | true ↦ either_above x (e.0, new_number marks e.1) (kept_children marks es) (above 0 (omega arith)) later
        | false ↦ later
      ]

  first_sorted : (x : ℕ × ℕ) (es : Children) → ((j : ℕ) → j < length es → x.0 < key_at es j) → IsStrictlySorted es
      → IsStrictlySorted (x ∷ es)
  first_sorted x es above sorted zero zero lt in_range = absurd (omega arith)
  first_sorted x es above sorted zero (suc j) lt in_range = above j (omega arith)
  first_sorted x es above sorted (suc i) zero lt in_range = absurd (omega arith)
  first_sorted x es above sorted (suc i) (suc j) lt in_range = sorted i j (omega arith) (omega arith)

  pub kept_sorted : (es : Children) → IsStrictlySorted es → IsStrictlySorted (kept_children marks es)
  kept_sorted [] sorted = sorted
  kept_sorted (x ∷ es) sorted =
      let later = kept_sorted es (sorted_tail x es sorted) in
      elim (is_marked marks x.1) as (λ b. IsStrictlySorted (if b then (x.0, new_number marks x.1)
      ∷ kept_children marks es else kept_children marks es)) [
        | true ↦ first_sorted (x.0, new_number marks x.1) (kept_children marks es)
            (kept_above x.0 es (λ j lt. sorted 0 (suc j) (omega arith) (omega arith))) later
        | false ↦ later
      ]

  -- one more child
  pub kept_push : (es : Children) (x : ℕ × ℕ) → kept_children marks (es ++ x ∷ [])
      ≡ kept_children marks es ++ kept_children marks (x ∷ [])
  kept_push [] x = refl
  kept_push (e ∷ es) x = elim (is_marked marks e.1) as
      (λ b. (if b then (e.0, new_number marks e.1) ∷ kept_children marks (es ++ x ∷ []) else kept_children marks
      (es ++ x ∷ [])) ≡ (if b then (e.0, new_number marks e.1) ∷ kept_children marks es else kept_children marks es)
      ++ kept_children marks (x ∷ [])) [
        | true ↦ ap (λ l. (e.0, new_number marks e.1) ∷ l) (kept_push es x)
        | false ↦ kept_push es x
      ]

  pub kept_one : (x : ℕ × ℕ) → IsTrue (is_marked marks x.1) → kept_children marks (x ∷ []) ≡ (x.0, new_number marks x.1)
      ∷ []
  kept_one x marked = ap (λ b. if b then (x.0, new_number marks x.1) ∷ [] else []) marked

  pub kept_none : (x : ℕ × ℕ) → is_marked marks x.1 ≡ false → kept_children marks (x ∷ []) ≡ []
  kept_none x unmarked = ap (λ b. if b then (x.0, new_number marks x.1) ∷ [] else []) unmarked

  pub is_marked_or : (k : ℕ) (d : Bool) → k < length marks → is_marked marks k ≡ get_or marks k d
  is_marked_or k d lt = ap (λ o. unwrap_or o false) (get_there marks k d lt)

-- where a child stands
pub child_place : (es : Children) (c k : ℕ) → child es c ≡ Some k → (i : ℕ) × (i < length es)
    × ((get_or es i (0, 0)).1 ≡ k)
child_place [] c k e = absurd (cc)
child_place (x ∷ es) c k e = elim (cases_eq x.0 c) [
  | inl same ↦
      let is : Some x.1 ≡ Some k = sym (ap (λ b. cond b (Some x.1) (child es c)) (eq-eqb x.0 c same)) ∙ e in
      (0, omega arith, (cc))
  | inr apart ↦ let later = child_place es c k (sym (skip_first x es c apart) ∙ e) in
      (suc later.0, omega (arith, later.1), later.2)
]

-- marks of all nodes fill the vector that they are written back to
pub whole_marks : (n i m : ℕ) (old now new rest : List Bool) → length now ≡ n → now ≡ old → length old ≡ i → m ≤ i
    → i ≤ m → length new ≡ m → take n (new ++ rest) ≡ new
whole_marks n i m old now new rest len value count up down one_each =
    let same : i ≡ m = omega arith in
    ap (λ k. take k (new ++ rest)) (sym len ∙ ap length value ∙ count ∙ same ∙ sym one_each) ∙ take-append_seam new rest
