-- Places from which the same texts are known.
use Rattle.elasticlunr_trie_nodes.specs.Pairs.{key_at, IsStrictlySorted}
use Rattle.elasticlunr_trie_nodes.specs.Names.{Names}
use Rattle.elasticlunr_trie.specs.Children.{Children, child}
use Rattle.elasticlunr_trie_nodes.specs.Nodes.{entries_of, postings_at}
use Rattle.elasticlunr_trie_nodes.specs.Trie.{named, rank, children_at, step_of, walk, entries_at, IsTrie, table_of}
use Rattle.std.proofs.Common.{◌≡◌, ◌≢◌, inl, inr, ℕ, zero, suc, ◌<◌, ◌≤◌, cond, true, false, Bool, ◌↔◌, List, [], ◌∷◌}
use Rattle.std.proofs.Common.{length, map, get_or, Option, Some, None, IsSome, is_some, option_map, option_and_then}
use Rattle.std.proofs.Common.{refl, sym, ap, subst, ◌∙◌, arith, eqb, ne_eqb}
use mathlib.Core.Bool.{false≢true}
use Rattle.std.proofs.lemmas.Bool.{cases_eq, eq-eqb}
use Rattle.std.specs.List.{slice_get}
use Rattle.elasticlunr_error.specs.Text.{Text}
use Rattle.elasticlunr_trie_nodes.specs.Table.{Postings}
use Rattle.std.specs.Bool.{Decides}
use Rattle.std.specs.FinMap.{get}
use Rattle.elasticlunr_trie_nodes.proofs.Tables.{get_table}
use Rattle.elasticlunr_trie_nodes.proofs.Settled.{same_table}
use Rattle.elasticlunr_trie.specs.Same.{look_from, IsSameBelow}
use Rattle.elasticlunr_trie_nodes.specs.declared.nodes.Node.{Node}
use Rattle.elasticlunr_trie_nodes.specs.declared.nodes.Place.{Place}
use Rattle.elasticlunr_trie_nodes.specs.declared.nodes.Place.TheVariants.{Root, At}
use Rattle.elasticlunr_trie_nodes.proofs.Found.{value_absent, first_key_le}
use Rattle.elasticlunr_trie_nodes.proofs.Gap.{value_at_place}
use Rattle.elasticlunr_trie_nodes.proofs.Named.{no_names}

-- one step, and what is known from there
pub look_cons : (names : Names) (root : Children) (nodes : List Node) (p : Place) (c : ℕ) (t : Text)
    → look_from names root nodes p (c ∷ t) ≡ option_and_then (λ k. look_from names root nodes (At k) t)
    (child (children_at root nodes p) c)
look_cons names root nodes p c t = by (child (children_at root nodes p) c)
  where
    by : (o : Option ℕ) → option_map (λ q. named names (entries_at root nodes q))
        (option_and_then (λ k. walk (step_of root nodes) (At k) t) o)
        ≡ option_and_then (λ k. look_from names root nodes (At k) t) o
    by None = refl
    by (Some k) = refl

pub sorted_tail : (x : ℕ × ℕ) (l : Children) → IsStrictlySorted (x ∷ l) → IsStrictlySorted l
sorted_tail x l sorted i j lt in_range = sorted (suc i) (suc j) (omega arith) (omega arith)

pub not_again : (x : ℕ × ℕ) (l : Children) → IsStrictlySorted (x ∷ l) → child l x.0 ≡ None
not_again x l sorted = value_absent l x.0 (λ j lt same. let up = sorted 0 (suc j) (omega arith) (omega arith) in omega
    (arith, same, up))

found_first : (x : ℕ × ℕ) (l : Children) → IsSome (child (x ∷ l) x.0)
found_first x l = ap (λ b. is_some (cond b (Some x.1) (child l x.0))) (eq-eqb x.0 x.0 refl)

pub skip_first : (x : ℕ × ℕ) (l : Children) (c : ℕ) → x.0 ≢ c → child (x ∷ l) c ≡ child l c
skip_first x l c apart = ap (λ b. cond b (Some x.1) (child l c)) (ne_eqb x.0 c apart)

-- sorted lists that have the same keys have them at the same places
keys_same : (xs ys : Children) → IsStrictlySorted xs → IsStrictlySorted ys
    → ((c : ℕ) → is_some (child xs c) ≡ is_some (child ys c)) → map (λ e. e.0) xs ≡ map (λ e. e.0) ys
keys_same [] [] sx sy same = refl
keys_same [] (y ∷ ys) sx sy same = absurd (false≢true (same y.0 ∙ found_first y ys))
keys_same (x ∷ xs) [] sx sy same = absurd (false≢true (sym (same x.0) ∙ found_first x xs))
keys_same (x ∷ xs) (y ∷ ys) sx sy same =
    let low : y.0 ≤ x.0 = first_key_le (y ∷ ys) sy x.0 (sym (same x.0) ∙ found_first x xs) in
    let high : x.0 ≤ y.0 = first_key_le (x ∷ xs) sx y.0 (same y.0 ∙ found_first y ys) in
    let first : x.0 ≡ y.0 = omega arith in
    let rest = λ (c : ℕ). tail first c in
    λ i. first i ∷ keys_same xs ys (sorted_tail x xs sx) (sorted_tail y ys sy) rest i
  where
    tail : x.0 ≡ y.0 → (c : ℕ) → is_some (child xs c) ≡ is_some (child ys c)
    tail first c = elim (cases_eq x.0 c) [
      | inl here ↦
          ap is_some (ap (child xs) (sym here) ∙ not_again x xs sx)
          ∙ sym (ap is_some (ap (child ys) (sym here ∙ first) ∙ not_again y ys sy))
      | inr apart ↦ ap is_some (sym (skip_first x xs c apart)) ∙ same c
          ∙ ap is_some (skip_first y ys c (λ e. apart (first ∙ e)))
    ]

length_keys : (xs : Children) → length (map (λ e. e.0) xs) ≡ length xs
length_keys [] = refl
length_keys (x ∷ xs) = ap suc (length_keys xs)

key_from : (xs ys : Children) (i : ℕ) → map (λ e. e.0) xs ≡ map (λ e. e.0) ys → i < length xs → key_at xs i
    ≡ key_at ys i
key_from [] ys i e h = absurd (omega arith)
key_from (x ∷ xs) [] i e h = absurd (cc)
key_from (x ∷ xs) (y ∷ ys) zero e h = cc
key_from (x ∷ xs) (y ∷ ys) (suc i) e h = key_from xs ys i (cc) (omega arith)

-- two lists of children lead to the same texts: below f k and g j are what is known from the nodes k and j
module _ (f g : ℕ → Text → Option Postings) where
  abbrev pub AreAlike : ℕ × ℕ → ℕ × ℕ → Type 0
  AreAlike a b = (a.0 ≡ b.0) × ((t : Text) → f a.1 t ≡ g b.1 t)

  abbrev pub LeadAlike : Children → Children → Type 0
  LeadAlike xs ys = (c : ℕ) (t : Text) → option_and_then (λ k. f k t) (child xs c)
      ≡ option_and_then (λ j. g j t) (child ys c)

  pub lead_alike : (xs ys : Children) → length xs ≡ length ys
      → ((i : ℕ) → i < length xs → AreAlike (get_or xs i (0, 0)) (get_or ys i (0, 0))) → LeadAlike xs ys
  lead_alike [] [] count each c t = refl
  lead_alike [] (y ∷ ys) count each c t = absurd (omega (arith, count))
  lead_alike (x ∷ xs) [] count each c t = absurd (omega (arith, count))
  lead_alike (x ∷ xs) (y ∷ ys) count each c t =
      let first = each 0 (omega arith) in
      let rest = lead_alike xs ys (omega (arith, count)) (λ i h. each (suc i) (omega arith)) c t in
      by (eqb x.0 c) first.1 rest ∙ ap (λ k. option_and_then (λ j. g j t) (cond (eqb k c) (Some y.1) (child ys c)))
      first.0
    where
      by : (b : _) → ((t : Text) → f x.1 t ≡ g y.1 t) → option_and_then (λ k. f k t) (child xs c)
          ≡ option_and_then (λ j. g j t) (child ys c)
          → option_and_then (λ k. f k t) (cond b (Some x.1) (child xs c))
          ≡ option_and_then (λ j. g j t) (cond b (Some y.1) (child ys c))
      by true one rest = one t
      by false one rest = rest

  module _ (f_there : (k : ℕ) → IsSome (f k [])) (g_there : (k : ℕ) → IsSome (g k [])) (xs ys : Children)
      (sx : IsStrictlySorted xs) (sy : IsStrictlySorted ys) (alike : LeadAlike xs ys) where
    some_f : (o : Option ℕ) → is_some (option_and_then (λ k. f k []) o) ≡ is_some o
    some_f None = refl
    some_f (Some k) = f_there k

    some_g : (o : Option ℕ) → is_some (option_and_then (λ k. g k []) o) ≡ is_some o
    some_g None = refl
    some_g (Some k) = g_there k

    keys : map (λ e. e.0) xs ≡ map (λ e. e.0) ys
    keys = keys_same xs ys sx sy (λ c. sym (some_f (child xs c)) ∙ ap is_some (alike c []) ∙ some_g (child ys c))

    pub alike_count : length xs ≡ length ys
    alike_count = sym (length_keys xs) ∙ ap length keys ∙ length_keys ys

    pub alike_key : (i : ℕ) → i < length xs → key_at xs i ≡ key_at ys i
    alike_key i h = key_from xs ys i keys h

    pub alike_at : (i : ℕ) → i < length xs → (t : Text) → f (get_or xs i (0, 0)).1 t ≡ g (get_or ys i (0, 0)).1 t
    alike_at i h t =
        let key = alike_key i h in
        let one = value_at_place xs sx (key_at xs i) i (record { in_range = h; has_key = refl }) in
        let two = value_at_place ys sy (key_at xs i) i
        (record { in_range = omega (arith, alike_count, h); has_key = sym key }) in
        sym (ap (option_and_then (λ k. f k t)) one) ∙ alike (key_at xs i) t ∙ ap (option_and_then (λ j. g j t)) two

-- the same of two places
pub same_below_alike : (names : Names) (root : Children) (nodes : List Node) (p : Place) (names2 : Names)
    (root2 : Children) (nodes2 : List Node) (q : Place) → IsSameBelow names root nodes p names2 root2 nodes2 q
    → LeadAlike (λ k. look_from names root nodes (At k)) (λ j. look_from names2 root2 nodes2 (At j))
    (children_at root nodes p) (children_at root2 nodes2 q)
same_below_alike names root nodes p names2 root2 nodes2 q same c t = sym (look_cons names root nodes p c t) ∙ same c t
    ∙ look_cons names2 root2 nodes2 q c t

pub alike_same_below : (names : Names) (root : Children) (nodes : List Node) (p : Place) (names2 : Names)
    (root2 : Children) (nodes2 : List Node) (q : Place)
    → LeadAlike (λ k. look_from names root nodes (At k)) (λ j. look_from names2 root2 nodes2 (At j))
    (children_at root nodes p) (children_at root2 nodes2 q) → IsSameBelow names root nodes p names2 root2 nodes2 q
alike_same_below names root nodes p names2 root2 nodes2 q alike c t = look_cons names root nodes p c t ∙ alike c t
    ∙ sym (look_cons names2 root2 nodes2 q c t)

pub same_from : (names : Names) (root : Children) (nodes : List Node) (p : Place) (names2 : Names) (root2 : Children)
    (nodes2 : List Node) (q : Place) → named names (entries_at root nodes p)
    ≡ named names2 (entries_at root2 nodes2 q) → IsSameBelow names root nodes p names2 root2 nodes2 q
    → (t : Text) → look_from names root nodes p t ≡ look_from names2 root2 nodes2 q t
same_from names root nodes p names2 root2 nodes2 q here below [] = ap Some here
same_from names root nodes p names2 root2 nodes2 q here below (c ∷ t) = below c t

module _ (names : Names) (root : Children) (nodes : List Node) (trie : IsTrie root nodes) (p : Place) (names2 : Names)
    (root2 : Children) (nodes2 : List Node) (trie2 : IsTrie root2 nodes2) (q : Place) (es es2 : Children) (are : es
    ≡ children_at root nodes p) (are2 : es2 ≡ children_at root2 nodes2 q) where
  abbrev f : ℕ → Text → Option Postings
  f k = look_from names root nodes (At k)

  abbrev g : ℕ → Text → Option Postings
  g j = look_from names2 root2 nodes2 (At j)

  sorted : IsStrictlySorted es
  sorted = subst IsStrictlySorted (sym are) (trie.in_order p)

  sorted2 : IsStrictlySorted es2
  sorted2 = subst IsStrictlySorted (sym are2) (trie2.in_order q)

  leads : IsSameBelow names root nodes p names2 root2 nodes2 q → LeadAlike f g es es2
  leads same = subst (λ xs. LeadAlike f g xs es2) (sym are)
      (subst (λ ys. LeadAlike f g (children_at root nodes p) ys) (sym are2)
      (same_below_alike names root nodes p names2 root2 nodes2 q same))

  pub right_count : IsSameBelow names root nodes p names2 root2 nodes2 q → length es ≡ length es2
  right_count same = alike_count f g (λ k. refl) (λ k. refl) es es2 sorted sorted2 (leads same)

  pub right_key : (i : ℕ) → i < length es → IsSameBelow names root nodes p names2 root2 nodes2 q → key_at es i
      ≡ key_at es2 i
  right_key i h same = alike_key f g (λ k. refl) (λ k. refl) es es2 sorted sorted2 (leads same) i h

  right_at : (i : ℕ) → i < length es → IsSameBelow names root nodes p names2 root2 nodes2 q → (t : Text)
      → f (get_or es i (0, 0)).1 t ≡ g (get_or es2 i (0, 0)).1 t
  right_at i h same = alike_at f g (λ k. refl) (λ k. refl) es es2 sorted sorted2 (leads same) i h

  pub right_postings : (i : ℕ) → i < length es → IsSameBelow names root nodes p names2 root2 nodes2 q
      → named names (entries_of (slice_get nodes (get_or es i (0, 0)).1))
      ≡ named names2 (entries_of (slice_get nodes2 (get_or es2 i (0, 0)).1))
  right_postings i h same = let both : Some (named names (entries_of (slice_get nodes (get_or es i (0, 0)).1)))
      ≡ Some (named names2 (entries_of (slice_get nodes2 (get_or es2 i (0, 0)).1))) = right_at i h same [] in cc

  pub right_below : (i : ℕ) → i < length es → IsSameBelow names root nodes p names2 root2 nodes2 q
      → IsSameBelow names root nodes (At (get_or es i (0, 0)).1) names2 root2 nodes2 (At (get_or es2 i (0, 0)).1)
  right_below i h same c t = right_at i h same (c ∷ t)

  pub all_right : length es ≡ length es2 →
      ((i : ℕ) → i < length es → AreAlike f g (get_or es i (0, 0)) (get_or es2 i (0, 0)))
      → IsSameBelow names root nodes p names2 root2 nodes2 q
  all_right count each = alike_same_below names root nodes p names2 root2 nodes2 q
      (subst (λ xs. LeadAlike f g xs (children_at root2 nodes2 q)) are
      (subst (λ ys. LeadAlike f g es ys) are2 (lead_alike f g es es2 count each)))

  pub in_nodes : (i : ℕ) → i < length es → (rank p ≤ (get_or es i (0, 0)).1) × ((get_or es i (0, 0)).1 < length nodes)
  in_nodes i h =
      let found = ap (λ xs. child xs (key_at es i)) (sym are)
      ∙ value_at_place es sorted (key_at es i) i (record { in_range = h; has_key = refl }) in
      (trie.forest.higher p (key_at es i) _ found, trie.forest.is_node p (key_at es i) _ found)

  pub in_nodes2 : (i : ℕ) → i < length es2 → (get_or es2 i (0, 0)).1 < length nodes2
  in_nodes2 i h =
      let found = ap (λ xs. child xs (key_at es2 i)) (sym are2)
      ∙ value_at_place es2 sorted2 (key_at es2 i) i (record { in_range = h; has_key = refl }) in
      trie2.forest.is_node q (key_at es2 i) _ found

-- the roots lead to the same texts exactly if the tables are one
pub same_roots : (names : Names) (root : Children) (nodes : List Node) (names2 : Names) (root2 : Children)
    (nodes2 : List Node) → IsTrie root nodes → IsTrie root2 nodes2 → IsSameBelow names root nodes Root names2 root2
    nodes2 Root ↔ (table_of root nodes names ≡ table_of root2 nodes2 names2)
same_roots names root nodes names2 root2 nodes2 trie trie2 = (
  λ below. same_table (table_of root nodes names) (table_of root2 nodes2 names2) (λ t. get_table root nodes trie names t
      ∙ same_from names root nodes Root names2 root2 nodes2 Root (no_names names ∙ sym (no_names names2)) below t
      ∙ sym (get_table root2 nodes2 trie2 names2 t)),
  λ same c t. sym (get_table root nodes trie names (c ∷ t)) ∙ ap (λ T. get T (c ∷ t)) same
      ∙ get_table root2 nodes2 trie2 names2 (c ∷ t),
)

-- tests of one fact answer alike
pub one_answer : (a b : Bool) (P : Type 0) → Decides a P → Decides b P → a ≡ b
one_answer true b P one two = sym (two.1 (one.0 refl))
one_answer false true P one two = one.1 (two.0 refl)
one_answer false false P one two = refl

-- two children have the same character and the same postings
abbrev pub IsSameChild : Names → List Node → Names → List Node → ℕ × ℕ → ℕ × ℕ → Type 0
IsSameChild names nodes names2 nodes2 e e2 = (e.0 ≡ e2.0)
    × (named names (postings_at nodes e.1) ≡ named names2 (postings_at nodes2 e2.1))

module _ (names : Names) (nodes : List Node) (names2 : Names) (nodes2 : List Node) where
  pub moved_child : (a b a2 b2 : ℕ × ℕ) → a ≡ b → a2 ≡ b2 → IsSameChild names nodes names2 nodes2 a a2
      → IsSameChild names nodes names2 nodes2 b b2
  moved_child a b a2 b2 e e2 same = subst (λ x. IsSameChild names nodes names2 nodes2 x b2) e
      (subst (λ x. IsSameChild names nodes names2 nodes2 a x) e2 same)

module _ (names : Names) (root : Children) (nodes : List Node) (names2 : Names) (root2 : Children) (nodes2 : List Node)
  where
    pub moved_below : (k m k2 m2 : ℕ) → k ≡ m → k2 ≡ m2 → IsSameBelow names root nodes (At k) names2 root2 nodes2 (At k2)
        → IsSameBelow names root nodes (At m) names2 root2 nodes2 (At m2)
    moved_below k m k2 m2 e e2 same = subst (λ x. IsSameBelow names root nodes (At x) names2 root2 nodes2 (At m2)) e
        (subst (λ x. IsSameBelow names root nodes (At k) names2 root2 nodes2 (At x)) e2 same)
