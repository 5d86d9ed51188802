-- The nodes below a place, in the order of their texts: each that is there, and no other.
use Rattle.std.proofs.Common.{◌≡◌, ◌⊎◌, inl, inr, ℕ, zero, suc, ◌+◌, ◌<◌, ◌≤◌, Bool, true, false, cond, List, [], ◌∷◌}
use Rattle.std.proofs.Common.{◌++◌, length, Some, refl, sym, ap, subst, ◌∙◌, arith, append_assoc, append-nil, ne_eqb}
use Rattle.std.proofs.Common.{Less}
use Rattle.std.proofs.lemmas.Bool.{cases_eq, eq-eqb}
use Rattle.std.specs.List.{slice_get, AllByRecursion}
use Rattle.std.specs.List.Sorted.{IsStrictlySortedBy}
use Rattle.elasticlunr_error.specs.Text.{Text, text_cmp}
use Rattle.elasticlunr_trie_nodes.specs.Table.{IsPrefix}
use Rattle.elasticlunr_trie_nodes.specs.Pairs.{value_of}
use Rattle.elasticlunr_trie_nodes.specs.Nodes.{children_of}
use Rattle.elasticlunr_trie_nodes.specs.Trie.{children_at, step_of, walk, IsTrie}
use Rattle.elasticlunr_trie_nodes.specs.declared.nodes.Node.{Node}
use Rattle.elasticlunr_trie_nodes.specs.declared.nodes.Place.{Place}
use Rattle.elasticlunr_trie_nodes.specs.declared.nodes.Place.TheVariants.{Root, At}
use Rattle.elasticlunr_trie_nodes.proofs.Forest.{walk_after, walk_cons, walk_to, rises, within}
use Rattle.elasticlunr_trie_nodes.proofs.Tables.{In, in_left, in_right}
use Rattle.elasticlunr_trie.specs.Children.{Children}
use Rattle.elasticlunr_trie.specs.Visits.{Visits, below, visits, node_visits, posted, is_posted, HasVisits}
use Rattle.elasticlunr_trie.proofs.Printed.{AreRising, are_rising, above_not, found}
use Rattle.elasticlunr_trie.proofs.Rising.{IsLess, less_first, same_first}

in_either : {A : Type 0} (x : A) (xs ys : List A) → In x (xs ++ ys) → In x xs ⊎ In x ys
in_either x [] ys h = inr h
in_either x (y ∷ xs) ys (inl e) = inl (inl e)
in_either x (y ∷ xs) ys (inr h) = elim (in_either x xs ys h) [ inl l ↦ inl (inr l) | inr r ↦ inr r ]

-- ---- texts that go on

goes_on : (t w : Text) (c : ℕ) → IsPrefix (t ++ c ∷ []) w → IsPrefix t w
goes_on t w c h = (c ∷ h.0, sym (append_assoc t (c ∷ []) h.0) ∙ h.1)

pub front_less : (t xs ys : Text) → IsLess xs ys → IsLess (t ++ xs) (t ++ ys)
front_less [] xs ys h = h
front_less (c ∷ t) xs ys h = same_first c (t ++ xs) (t ++ ys) (front_less t xs ys h)

none_less : (c : ℕ) (t : Text) → IsLess [] (c ∷ t)
unfolding IsLess
none_less c t = refl

-- a text is before those that go on from it
less_longer : (t w : Text) (c : ℕ) → IsPrefix (t ++ c ∷ []) w → IsLess t w
unfolding goes_on
less_longer t w c h =
    let more = goes_on t w c h in
    subst (λ x. IsLess x w) (append-nil t) (subst (IsLess (t ++ [])) more.1 (front_less t [] more.0 (none_less c h.0)))

-- and those that go on with a smaller character are before those with a greater one
less_apart : (t v w : Text) (c d : ℕ) → c < d → IsPrefix (t ++ c ∷ []) v → IsPrefix (t ++ d ∷ []) w → IsLess v w
unfolding goes_on
less_apart t v w c d lt g h =
    let one = goes_on t v c g in
    let two = goes_on t w d h in
    subst (λ x. IsLess x w) one.1 (subst (IsLess (t ++ c ∷ g.0)) two.1
    (front_less t (c ∷ g.0) (d ∷ h.0) (less_first c d g.0 h.0 lt)))

-- ---- visits in order

abbrev Rises : Visits → Type 0
Rises [] = Unit {0}
Rises (v ∷ vs) = ((w : Text × ℕ) → In w vs → IsLess v.0 w.0) × Rises vs

rises_append : (xs ys : Visits) → Rises xs → Rises ys → ((v w : Text × ℕ) → In v xs → In w ys → IsLess v.0 w.0)
    → Rises (xs ++ ys)
rises_append [] ys a b h = b
rises_append (x ∷ xs) ys a b h = (
  (λ w there. elim (in_either w xs ys there) [ inl l ↦ a.0 w l | inr r ↦ h x w (inl refl) r ]),
  rises_append xs ys a.1 b (λ v w l r. h v w (inr l) r),
)

-- what is visited from a text begins with it
abbrev Begins : (Text → ℕ → Visits) → Type 0
Begins f = (t : Text) (k : ℕ) (w : Text × ℕ) → In w (f t k) → IsPrefix t w.0

begin_below : (f : Text → ℕ → Visits) → Begins f → (t : Text) (es : Children) (w : Text × ℕ) → In w (below f t es)
    → (c : ℕ) × (k : ℕ) × In (c, k) es × IsPrefix (t ++ c ∷ []) w.0
begin_below f begins t [] w h = elim h [ ]
begin_below f begins t ((c, k) ∷ es) w h = elim (in_either w (f (t ++ c ∷ []) k) (below f t es) h) [
  | inl here ↦ (c, k, inl refl, begins (t ++ c ∷ []) k w here)
  | inr there ↦ let later = begin_below f begins t es w there in (later.0, later.1, inr later.2, later.3)
]

below_rise : (f : Text → ℕ → Visits) → Begins f → ((t : Text) (k : ℕ) → Rises (f t k)) → (t : Text) (es : Children)
    → AreRising es → Rises (below f t es)
below_rise f begins each t [] rising = tt
below_rise f begins each t ((c, k) ∷ es) rising = rises_append _ _ (each (t ++ c ∷ []) k)
    (below_rise f begins each t es rising.1) (λ v w here there.
    let later = begin_below f begins t es w there in
    less_apart t v.0 w.0 c later.0 (above_not c later.0 later.1 es rising.0 later.2) (begins (t ++ c ∷ []) k v here)
    later.3)

-- ---- the visits of a child are among those below

in_below : (f : Text → ℕ → Visits) (t : Text) (es : Children) (c k : ℕ) (v : Text × ℕ) → value_of es c ≡ Some k
    → In v (f (t ++ c ∷ []) k) → In v (below f t es)
in_below f t [] c k v e h = absurd (cc)
in_below f t ((d, j) ∷ es) c k v e h = elim (cases_eq d c) [
  | inl same ↦
      let number : Some j ≡ Some k = sym (ap (λ b. cond b (Some j) (value_of es c)) (eq-eqb d c same)) ∙ e in
      let node : j ≡ k = cc in
      in_left v _ _ (subst (λ x. In v (f (t ++ x ∷ []) j)) (sym same)
      (subst (λ x. In v (f (t ++ c ∷ []) x)) (sym node) h))
  | inr other ↦
      let later : value_of es c ≡ Some k = sym (ap (λ b. cond b (Some j) (value_of es c)) (ne_eqb d c other)) ∙ e in
      in_right v _ _ (in_below f t es c k v later h)
]

-- ---- the visits of a trie

module _ (root : Children) (nodes : List Node) (trie : IsTrie root nodes) where
  child_of : (p : Place) (c k : ℕ) → In (c, k) (children_at root nodes p) → step_of root nodes p c ≡ Some k
  child_of p c k there = found (children_at root nodes p) (are_rising _ (trie.in_order p)) c k there

  no_child : (k c j : ℕ) → length nodes ≤ suc k → In (c, j) (children_of (slice_get nodes k)) → ⊥
  no_child k c j deep there =
      let step = child_of (At k) c j there in
      omega (arith, deep, trie.forest.higher (At k) c j step, trie.forest.is_node (At k) c j step)

  none_below : (f : Text → ℕ → Visits) (t : Text) (es : Children) → ((c k : ℕ) → In (c, k) es → ⊥) → below f t es ≡ []
  none_below f t [] h = refl
  none_below f t ((c, k) ∷ es) h = absurd (h c k (inl refl))

  same_below : (f g : Text → ℕ → Visits) (t : Text) (es : Children)
      → ((c k : ℕ) → In (c, k) es → (u : Text) → f u k ≡ g u k) → below f t es ≡ below g t es
  same_below f g t [] h = refl
  same_below f g t ((c, k) ∷ es) h = λ i. h c k (inl refl) (t ++ c ∷ []) i ++ same_below f g t es
      (λ d j there. h d j (inr there)) i

  -- the depth makes no difference
  deep_enough : (n m : ℕ) (t : Text) (k : ℕ) → length nodes ≤ n + suc k → length nodes ≤ m + suc k → visits nodes n t k
      ≡ visits nodes m t k
  deep_enough zero zero t k h g = refl
  deep_enough zero (suc m) t k h g = ap (λ vs. (t, k) ∷ vs)
      (sym (none_below (visits nodes m) t (children_of (slice_get nodes k))
      (λ c j there. no_child k c j (omega (arith, h)) there)))
  deep_enough (suc n) zero t k h g = ap (λ vs. (t, k) ∷ vs)
      (none_below (visits nodes n) t (children_of (slice_get nodes k))
      (λ c j there. no_child k c j (omega (arith, g)) there))
  deep_enough (suc n) (suc m) t k h g = ap (λ vs. (t, k) ∷ vs)
      (same_below (visits nodes n) (visits nodes m) t (children_of (slice_get nodes k)) (λ c j there u.
      let up = trie.forest.higher (At k) c j (child_of (At k) c j there) in
      deep_enough n m u j (omega (arith, h, up)) (omega (arith, g, up))))

  pub has_visits : HasVisits nodes
  unfolding node_visits
  has_visits t k = deep_enough (length nodes) (suc (length nodes)) t k (omega arith) (omega arith)

  -- each text begins with the one from which it is visited
  begins : (n : ℕ) → Begins (visits nodes n)
  begins zero t k w (inl e) = ([], append-nil t ∙ sym (ap (λ (v : Text × ℕ). v.0) e))
  begins zero t k w (inr h) = elim h [ ]
  begins (suc n) t k w (inl e) = ([], append-nil t ∙ sym (ap (λ (v : Text × ℕ). v.0) e))
  begins (suc n) t k w (inr h) =
      let later = begin_below (visits nodes n) (begins n) t (children_of (slice_get nodes k)) w h in
      goes_on t w.0 later.0 later.3

  rise : (n : ℕ) (t : Text) (k : ℕ) → Rises (visits nodes n t k)
  rise zero t k = ((λ w h. elim h [ ]), tt)
  rise (suc n) t k = (
    (λ w h. let later = begin_below (visits nodes n) (begins n) t (children_of (slice_get nodes k)) w h in less_longer t
        w.0 later.0 later.3),
    below_rise (visits nodes n) (begins n) (rise n) t (children_of (slice_get nodes k))
        (are_rising _ (trie.in_order (At k))),
  )

  -- each text leads to its node
  abbrev Leads : (Text → ℕ → Visits) → Type 0
  Leads f = (t : Text) (k : ℕ) → walk (step_of root nodes) Root t ≡ Some (At k) → (w : Text × ℕ) → In w (f t k)
      → walk (step_of root nodes) Root w.0 ≡ Some (At w.1)

  lead_below : (f : Text → ℕ → Visits) → Leads f → (t : Text) (p : Place) → walk (step_of root nodes) Root t ≡ Some p
      → (es : Children) → ((c k : ℕ) → In (c, k) es → step_of root nodes p c ≡ Some k)
      → (w : Text × ℕ) → In w (below f t es) → walk (step_of root nodes) Root w.0 ≡ Some (At w.1)
  lead_below f leads t p to [] are w h = elim h [ ]
  lead_below f leads t p to ((c, k) ∷ es) are w h = elim (in_either w (f (t ++ c ∷ []) k) (below f t es) h) [
    | inl here ↦ leads (t ++ c ∷ []) k (walk_to (step_of root nodes) t c k Root p to (are c k (inl refl))) w here
    | inr there ↦ lead_below f leads t p to es (λ d j within. are d j (inr within)) w there
  ]

  lead : (n : ℕ) → Leads (visits nodes n)
  lead zero t k to w (inl e) = ap (λ (v : Text × ℕ). walk (step_of root nodes) Root v.0) e ∙ to
      ∙ sym (ap (λ (v : Text × ℕ). Some (At v.1)) e)
  lead zero t k to w (inr h) = elim h [ ]
  lead (suc n) t k to w (inl e) = ap (λ (v : Text × ℕ). walk (step_of root nodes) Root v.0) e ∙ to
      ∙ sym (ap (λ (v : Text × ℕ). Some (At v.1)) e)
  lead (suc n) t k to w (inr h) = lead_below (visits nodes n) (lead n) t (At k) to (children_of (slice_get nodes k))
      (child_of (At k)) w h

  -- and no node is left out
  whole : (n : ℕ) (t : Text) (k : ℕ) (rest : Text) (j : ℕ) → walk (step_of root nodes) (At k) rest ≡ Some (At j)
      → length rest ≤ n → In (t ++ rest, j) (visits nodes n t k)
  whole zero t k [] j e short = let same : j ≡ k = cc in inl (λ i. (append-nil t i, same i))
  whole (suc n) t k [] j e short = let same : j ≡ k = cc in inl (λ i. (append-nil t i, same i))
  whole zero t k (c ∷ rest) j e short = absurd (omega arith)
  whole (suc n) t k (c ∷ rest) j e short =
      let at = walk_cons (step_of root nodes) (At k) (At j) c rest e in
      inr (in_below (visits nodes n) t (children_of (slice_get nodes k)) c at.0 (t ++ c ∷ rest, j) at.1
      (subst (λ u. In (u, j) (visits nodes n (t ++ c ∷ []) at.0)) (append_assoc t (c ∷ []) rest)
      (whole n (t ++ c ∷ []) at.0 rest j at.2 (omega arith))))

-- ---- the texts with postings among visits

module _ (nodes : List Node) where
  posted_from : (vs : Visits) (t : Text) → In t (posted nodes vs) → (k : ℕ) × In (t, k) vs × (is_posted nodes k ≡ true)
  posted_from [] t h = elim h [ ]
  posted_from (v ∷ vs) t h = by (posted_from vs t) (is_posted nodes v.1) refl h
    where
      by : (In t (posted nodes vs) → (k : ℕ) × In (t, k) vs × (is_posted nodes k ≡ true)) → (b : Bool)
          → is_posted nodes v.1 ≡ b
          → In t (cond b (v.0 ∷ posted nodes vs) (posted nodes vs)) → (k : ℕ) × In (t, k) (v ∷ vs)
          × (is_posted nodes k ≡ true)
      by more true is (inl e) = (v.1, inl (λ i. (e i, v.1)), is)
      by more true is (inr later) = let there = more later in (there.0, inr there.1, there.2)
      by more false is later = let there = more later in (there.0, inr there.1, there.2)

  posted_to : (vs : Visits) (t : Text) (k : ℕ) → In (t, k) vs → is_posted nodes k ≡ true → In t (posted nodes vs)
  posted_to [] t k h is = elim h [ ]
  posted_to (v ∷ vs) t k (inl e) is =
      let here : is_posted nodes v.1 ≡ true = sym (ap (λ (w : Text × ℕ). is_posted nodes w.1) e) ∙ is in
      subst (λ b. In t (cond b (v.0 ∷ posted nodes vs) (posted nodes vs))) (sym here)
      (inl (ap (λ (w : Text × ℕ). w.0) e))
  posted_to (v ∷ vs) t k (inr h) is = either (is_posted nodes v.1) (posted_to vs t k h is)
    where
      either : (b : Bool) → In t (posted nodes vs) → In t (cond b (v.0 ∷ posted nodes vs) (posted nodes vs))
      either true more = inr more
      either false more = more

  all_less : (t : Text) (vs : Visits) → ((w : Text × ℕ) → In w vs → IsLess t w.0)
      → AllByRecursion (λ y. text_cmp t y ≡ Less) (posted nodes vs)
  unfolding IsLess
  all_less t [] h = tt
  all_less t (v ∷ vs) h = by (is_posted nodes v.1) (h v (inl refl)) (all_less t vs (λ w there. h w (inr there)))
    where
      by : (b : Bool) → text_cmp t v.0 ≡ Less → AllByRecursion (λ y. text_cmp t y ≡ Less) (posted nodes vs)
          → AllByRecursion (λ y. text_cmp t y ≡ Less) (cond b (v.0 ∷ posted nodes vs) (posted nodes vs))
      by true first more = (first, more)
      by false first more = more

  posted_rise : (vs : Visits) → Rises vs → IsStrictlySortedBy text_cmp (posted nodes vs)
  unfolding IsStrictlySortedBy
  posted_rise [] h = tt
  posted_rise (v ∷ vs) h = by (is_posted nodes v.1) (all_less v.0 vs h.0) (posted_rise vs h.1)
    where
      by : (b : Bool) → AllByRecursion (λ y. text_cmp v.0 y ≡ Less) (posted nodes vs)
          → IsStrictlySortedBy text_cmp (posted nodes vs)
          → IsStrictlySortedBy text_cmp (cond b (v.0 ∷ posted nodes vs) (posted nodes vs))
      by true first more = (first, more)
      by false first more = more

  pub posted_append : (us vs : Visits) → posted nodes (us ++ vs) ≡ posted nodes us ++ posted nodes vs
  posted_append [] vs = refl
  posted_append (u ∷ us) vs = by (is_posted nodes u.1) (posted_append us vs)
    where
      by : (b : Bool) → posted nodes (us ++ vs) ≡ posted nodes us ++ posted nodes vs
          → cond b (u.0 ∷ posted nodes (us ++ vs)) (posted nodes (us ++ vs))
          ≡ cond b (u.0 ∷ posted nodes us) (posted nodes us) ++ posted nodes vs
      by true more = ap (λ ts. u.0 ∷ ts) more
      by false more = more

-- ---- the tokens from a text on

module _ (root : Children) (nodes : List Node) (trie : IsTrie root nodes) where
  abbrev pub Posted : Text → Type 0
  Posted u = (j : ℕ) × (walk (step_of root nodes) Root u ≡ Some (At j)) × (is_posted nodes j ≡ true)

  module _ (t : Text) where
    pub at_rise : (k : ℕ) → IsStrictlySortedBy text_cmp (posted nodes (node_visits nodes t k))
    unfolding node_visits
    at_rise k = posted_rise nodes _ (rise root nodes trie (length nodes) t k)

    pub root_rise : IsStrictlySortedBy text_cmp (posted nodes (below (node_visits nodes) t root))
    unfolding node_visits
    root_rise = posted_rise nodes _ (below_rise _ (begins root nodes trie (length nodes))
        (rise root nodes trie (length nodes)) t root (are_rising _ (trie.in_order Root)))

    pub at_from : (k : ℕ) → walk (step_of root nodes) Root t ≡ Some (At k) → (u : Text)
        → In u (posted nodes (node_visits nodes t k)) → IsPrefix t u × Posted u
    unfolding node_visits
    at_from k to u h =
        let at = posted_from nodes _ u h in (
          begins root nodes trie (length nodes) t k (u, at.0) at.1,
          (at.0, lead root nodes trie (length nodes) t k to (u, at.0) at.1, at.2),
        )

    pub root_from : walk (step_of root nodes) Root t ≡ Some Root → (u : Text)
        → In u (posted nodes (below (node_visits nodes) t root)) → IsPrefix t u × Posted u
    unfolding node_visits
    root_from to u h =
        let at = posted_from nodes _ u h in
        let first = begin_below (visits nodes (length nodes)) (begins root nodes trie (length nodes)) t root (u, at.0)
        at.1 in (
          goes_on t u first.0 first.3,
          (
            at.0,
            lead_below root nodes trie (visits nodes (length nodes))
                (lead root nodes trie (length nodes)) t Root to root (child_of root nodes trie Root) (u, at.0) at.1,
            at.2,
          ),
        )

    -- the rest of a text that begins with this one
    rest_from : (p : Place) → walk (step_of root nodes) Root t ≡ Some p → (u : Text) (j : ℕ) (starts : IsPrefix t u)
        → walk (step_of root nodes) Root u ≡ Some (At j)
        → (walk (step_of root nodes) p starts.0 ≡ Some (At j)) × (length starts.0 ≤ length nodes)
    rest_from p to u j starts e =
        let on : walk (step_of root nodes) p starts.0
        ≡ Some (At j) = sym (walk_after (step_of root nodes) t starts.0 Root p to)
        ∙ ap (walk (step_of root nodes) Root) starts.1 ∙ e in
        let up = rises (step_of root nodes) (length nodes) trie.forest starts.0 p (At j) on in
        let low = within (step_of root nodes) (length nodes) trie.forest u Root (At j) (omega arith) e in
        (on, omega (arith, up, low))

    pub at_to : (k : ℕ) → walk (step_of root nodes) Root t ≡ Some (At k) → (u : Text) → IsPrefix t u → Posted u
        → In u (posted nodes (node_visits nodes t k))
    unfolding node_visits
    at_to k to u starts at =
        let rest = rest_from (At k) to u at.0 starts at.1 in
        subst (λ x. In x (posted nodes (visits nodes (length nodes) t k))) starts.1
        (posted_to nodes _ (t ++ starts.0) at.0 (whole root nodes trie (length nodes) t k starts.0 at.0 rest.0 rest.1)
        at.2)

    pub root_to : walk (step_of root nodes) Root t ≡ Some Root → (u : Text) → IsPrefix t u → Posted u
        → In u (posted nodes (below (node_visits nodes) t root))
    unfolding node_visits
    root_to to u starts at =
        let rest = rest_from Root to u at.0 starts at.1 in
        subst (λ x. In x (posted nodes (below (visits nodes (length nodes)) t root))) starts.1
        (by starts.0 at.0 rest.0 rest.1 at.2)
      where
        by : (rest : Text) (j : ℕ) → walk (step_of root nodes) Root rest ≡ Some (At j) → length rest ≤ length nodes
            → is_posted nodes j ≡ true → In (t ++ rest) (posted nodes (below (visits nodes (length nodes)) t root))
        by [] j e short is = absurd (cc)
        by (c ∷ rest) j e short is =
            let first = walk_cons (step_of root nodes) Root (At j) c rest e in
            posted_to nodes _ (t ++ c ∷ rest) j (in_below (visits nodes (length nodes)) t root c first.0
            (t ++ c ∷ rest, j) first.1
            (subst (λ x. In (x, j) (visits nodes (length nodes) (t ++ c ∷ []) first.0)) (append_assoc t (c ∷ []) rest)
            (whole root nodes trie (length nodes) (t ++ c ∷ []) first.0 rest j first.2 (omega (arith, short))))) is
