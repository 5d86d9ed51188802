-- The tree of a place, as the list of its members, is its tree in the table.
use Rattle.elasticlunr_trie_nodes.specs.Pairs.{key_at, IsStrictlySorted}
use Rattle.elasticlunr_trie_nodes.specs.Names.{Names}
use Rattle.elasticlunr_trie.specs.Children.{Children, child}
use Rattle.elasticlunr_trie_nodes.specs.Nodes.{children_of}
use Rattle.elasticlunr_trie_nodes.specs.Trie.{children_at, entries_at, step_of, walk, table_of, IsTrie, named}
use Rattle.std.proofs.Common.{◌≡◌, ◌≢◌, inl, inr, ℕ, zero, suc, ◌+◌, ◌<◌, ◌≤◌, List, [], ◌∷◌, ◌++◌, length, Option}
use Rattle.std.proofs.Common.{Some, None, is_some, option_map, option_and_then, codes, encode_utf8, cond, refl, sym, ap}
use Rattle.std.proofs.Common.{subst, ◌∙◌, arith, Less, Equal, Greater, ne_eqb}
use Rattle.std.proofs.lemmas.Bool.{cases_eq, eq-eqb, cases_lt, lt-ltb, le-ltb}
use Rattle.std.proofs.lemmas.Cmp.{nat_list_cmp_total, tied_itself}
use Rattle.std.specs.Ordering.{nat_cmp, match_ordering, is_eq}
use Rattle.std.specs.Cmp.Lexicographic.{slice_cmp}
use Rattle.std.specs.List.{slice_get}
use Rattle.std.specs.FinMap as map
use Rattle.serde_json.specs.Data.{Data, object, number, unsigned, Members, member}
use Rattle.serde_json.specs.Find.{get_member}
use Rattle.elasticlunr_error.specs.Text.{Text}
use Rattle.elasticlunr_trie_nodes.specs.Table.{Postings, knows}
use Rattle.elasticlunr_trie.specs.Tree.{IsTree, AreParts, IsBelow, HasKeysInOrder, frequencies}
use Rattle.elasticlunr_trie.specs.Printed.{children_members, postings_before, place_members, tree_of, node_tree}
use Rattle.elasticlunr_trie.specs.Printed.{HasTrees}
use Rattle.elasticlunr_trie_nodes.proofs.Forest.{walk_push, walk_to, last_step}
use Rattle.elasticlunr_trie_nodes.proofs.Tables.{In, knows_walk, postings_walk}
use Rattle.elasticlunr_json.proofs.Texts.{text_tie}
use Rattle.elasticlunr_trie.proofs.Finishing.{not_letter, letters_same}
use Rattle.elasticlunr_trie.proofs.Rising.{encode_rising, up_to_d_below, above_d_above}
use Rattle.elasticlunr_trie_nodes.specs.declared.nodes.Node.{Node}
use Rattle.elasticlunr_trie_nodes.specs.declared.nodes.Place.{Place}
use Rattle.elasticlunr_trie_nodes.specs.declared.nodes.Place.TheVariants.{Root, At}

-- ---- children in the order of their characters

abbrev pub IsAbove : ℕ → Children → Type 0
IsAbove c [] = Unit {0}
IsAbove c ((d, k) ∷ es) = (c < d) × IsAbove c es

abbrev pub AreRising : Children → Type 0
AreRising [] = Unit {0}
AreRising ((c, k) ∷ es) = IsAbove c es × AreRising es

above_all : (c : ℕ) (es : Children) → ((j : ℕ) → j < length es → c < key_at es j) → IsAbove c es
above_all c [] h = tt
above_all c ((d, k) ∷ es) h = (h 0 (omega arith), above_all c es (λ j lt. h (suc j) (omega arith)))

pub are_rising : (es : Children) → IsStrictlySorted es → AreRising es
are_rising [] h = tt
are_rising ((c, k) ∷ es) h = (
  above_all c es (λ j lt. h 0 (suc j) (omega arith) (omega arith)),
  are_rising es (λ i j lt range. h (suc i) (suc j) (omega arith) (omega arith)),
)

pub above_not : (c d k : ℕ) (es : Children) → IsAbove c es → In (d, k) es → c < d
above_not c d k [] h there = elim there [ ]
above_not c d k ((x, j) ∷ es) h (inl e) = omega (arith, h.0, ap (λ (p : ℕ × ℕ). p.0) e)
above_not c d k ((x, j) ∷ es) h (inr there) = above_not c d k es h.1 there

-- each pair is what `child` finds
pub found : (es : Children) → AreRising es → (c k : ℕ) → In (c, k) es → child es c ≡ Some k
found [] h c k there = elim there [ ]
found ((d, j) ∷ es) h c k (inl e) =
    ap (λ b. cond b (Some j) (child es c)) (eq-eqb d c (sym (ap (λ (p : ℕ × ℕ). p.0) e)))
    ∙ ap Some (sym (ap (λ (p : ℕ × ℕ). p.1) e))
found ((d, j) ∷ es) h c k (inr there) =
    let up = above_not d c k es h.0 there in
    ap (λ b. cond b (Some j) (child es c)) (ne_eqb d c (λ e. absurd (omega (arith, up, e)))) ∙ found es h.1 c k there

-- ---- members

pub get_here : (k : List ℕ) (d : Data) (ms : Members) → get_member k (member k d ms) ≡ Some d
get_here k d ms = ap (λ o. match_ordering o (get_member k ms) (Some d) (get_member k ms))
    (tied_itself nat_list_cmp_total k)

pub get_other : (q k : List ℕ) (d : Data) (ms : Members) → q ≢ k → get_member q (member k d ms) ≡ get_member q ms
get_other q k d ms apart = elim (slice_cmp nat_cmp q k) as (λ o. slice_cmp nat_cmp q k ≡ o
    → match_ordering o (get_member q ms) (Some d) (get_member q ms) ≡ get_member q ms) [
      | Less ↦ λ is. refl
      | Equal ↦ λ is. absurd (apart (text_tie q k (ap is_eq is)))
      | Greater ↦ λ is. refl
    ] refl

-- the members of children
module _ (value : ℕ → Data) where
  children_below : (q : List ℕ) (es : Children) → ((c k : ℕ) → In (c, k) es → slice_cmp nat_cmp q (encode_utf8 c)
      ≡ Less) → IsBelow q (children_members value es)
  children_below q [] h = tt
  children_below q ((c, k) ∷ es) h = (h c k (inl refl), children_below q es (λ d j there. h d j (inr there)))

  children_ordered : (es : Children) → AreRising es → HasKeysInOrder (children_members value es)
  children_ordered [] h = tt
  children_ordered ((c, k) ∷ es) h = (
    children_below (encode_utf8 c) es
        (λ d j there. encode_rising c d (above_not c d j es h.0 there)),
    children_ordered es h.1,
  )

  get_children : (es : Children) (c : ℕ) → get_member (encode_utf8 c) (children_members value es)
      ≡ option_map value (child es c)
  get_children [] c = refl
  get_children ((d, k) ∷ es) c = elim (cases_eq d c) [
    | inl same ↦
        ap (λ x. get_member (encode_utf8 c) (member (encode_utf8 x) (value k) (children_members value es))) same
        ∙ get_here (encode_utf8 c) (value k) (children_members value es)
        ∙ sym (ap (λ b. option_map value (cond b (Some k) (child es c))) (eq-eqb d c same))
    | inr apart ↦
        get_other (encode_utf8 c) (encode_utf8 d) (value k) (children_members value es)
        (λ e. apart (sym (letters_same c d e))) ∙ get_children es c
        ∙ sym (ap (λ b. option_map value (cond b (Some k) (child es c))) (ne_eqb d c apart))
  ]

  module _ (P : Postings) where
    low : (c k : ℕ) (es : Children) → c ≤ 100 → place_members value P ((c, k) ∷ es)
        ≡ member (encode_utf8 c) (value k) (place_members value P es)
    low c k es h = rw (le-ltb 100 c h) refl

    high : (c k : ℕ) (es : Children) → 100 < c → place_members value P ((c, k) ∷ es)
        ≡ postings_before P (children_members value ((c, k) ∷ es))
    high c k es h = rw (lt-ltb 100 c h) refl

    -- what holds with `df` and `docs` before the children, and survives a child before, holds
    members_by : (Q : Children → Members → Type 0)
        → ((es : Children) → ((c k : ℕ) → In (c, k) es → AreRising es → 100 < c)
        → Q es (postings_before P (children_members value es)))
        → ((c k : ℕ) (es : Children) → c ≤ 100 → Q es (place_members value P es)
        → Q ((c, k) ∷ es) (member (encode_utf8 c) (value k) (place_members value P es)))
        → (es : Children) → Q es (place_members value P es)
    members_by Q first more [] = first [] (λ c k there. elim there [ ])
    members_by Q first more ((c, k) ∷ es) = elim (cases_lt 100 c) [
      | inl h ↦ subst (Q ((c, k) ∷ es)) (sym (high c k es h)) (first ((c, k) ∷ es) (λ d j there rising. elim there [
        | inl e ↦ omega (arith, h, ap (λ (p : ℕ × ℕ). p.0) e)
        | inr later ↦ omega (arith, h, above_not c d j es rising.0 later)
      ]))
      | inr h ↦ subst (Q ((c, k) ∷ es)) (sym (low c k es h)) (more c k es h (members_by Q first more es))
    ]

    abbrev count : Data
    count = number (unsigned (map.len P))

    abbrev docs : Data
    docs = object (frequencies (map.entries P))

    abbrev after_df : Children → Members
    after_df es = member (codes "docs") docs (children_members value es)

    apart_docs : (c : ℕ) → encode_utf8 c ≢ codes "docs"
    apart_docs c e = not_letter c 100 111 (99 ∷ 115 ∷ []) (omega arith) (sym e)

    apart_df : (c : ℕ) → encode_utf8 c ≢ codes "df"
    apart_df c e = not_letter c 100 102 [] (omega arith) (sym e)

    get_docs : (es : Children) → get_member (codes "docs") (place_members value P es)
        ≡ Some (object (frequencies (map.entries P)))
    get_docs = members_by (λ es ms. get_member (codes "docs") ms ≡ Some (object (frequencies (map.entries P))))
        (λ es h. get_other (codes "docs") (codes "df") count (after_df es) (λ e. cc)
        ∙ get_here (codes "docs") docs (children_members value es))
        (λ c k es h more. get_other (codes "docs") (encode_utf8 c) (value k) (place_members value P es)
        (λ e. apart_docs c (sym e)) ∙ more)

    get_df : (es : Children) → get_member (codes "df") (place_members value P es) ≡ Some (number (unsigned (map.len P)))
    get_df = members_by (λ es ms. get_member (codes "df") ms ≡ Some (number (unsigned (map.len P))))
        (λ es h. get_here (codes "df") count (after_df es))
        (λ c k es h more. get_other (codes "df") (encode_utf8 c) (value k) (place_members value P es)
        (λ e. apart_df c (sym e)) ∙ more)

    get_letter : (c : ℕ) (es : Children) → get_member (encode_utf8 c) (place_members value P es)
        ≡ option_map value (child es c)
    get_letter c = members_by (λ es ms. get_member (encode_utf8 c) ms ≡ option_map value (child es c))
        (λ es h. get_other (encode_utf8 c) (codes "df") count (after_df es) (apart_df c)
        ∙ get_other (encode_utf8 c) (codes "docs") docs (children_members value es) (apart_docs c)
        ∙ get_children es c)
        (λ d k es h more. elim (cases_eq d c) [
          | inl same ↦
              ap (λ x. get_member (encode_utf8 c) (member (encode_utf8 x) (value k) (place_members value P es))) same
              ∙ get_here (encode_utf8 c) (value k) (place_members value P es)
              ∙ sym (ap (λ b. option_map value (cond b (Some k) (child es c))) (eq-eqb d c same))
          | inr apart ↦
              get_other (encode_utf8 c) (encode_utf8 d) (value k) (place_members value P es)
              (λ e. apart (sym (letters_same c d e))) ∙ more
              ∙ sym (ap (λ b. option_map value (cond b (Some k) (child es c))) (ne_eqb d c apart))
        ])

    members_below : (c : ℕ) → c ≤ 100 → (es : Children) → IsAbove c es
        → IsBelow (encode_utf8 c) (place_members value P es)
    members_below c h = members_by (λ es ms. IsAbove c es → IsBelow (encode_utf8 c) ms)
        (λ es all above. (
          up_to_d_below c 102 [] h,
          (
            up_to_d_below c 111 (99 ∷ 115 ∷ []) h,
            children_below (encode_utf8 c) es
                (λ d j there. encode_rising c d (above_not c d j es above there)),
          ),
        ))
        (λ d k es h2 more above. (encode_rising c d above.0, more above.1))

    ordered : (es : Children) → AreRising es → HasKeysInOrder (place_members value P es)
    ordered = members_by (λ es ms. AreRising es → HasKeysInOrder ms)
        (λ es all rising. (
          (refl, children_below (codes "df") es (λ d j there. above_d_above d 102 [] (all d j there rising))),
          (
            children_below (codes "docs") es (λ d j there. above_d_above d 111 (99 ∷ 115 ∷ []) (all d j there rising)),
            children_ordered es rising,
          ),
        ))
        (λ c k es h more rising. (members_below c h es rising.0, more rising.1))

-- ---- the tree of a place

module _ (root : Children) (nodes : List Node) (trie : IsTrie root nodes) (names : Names) (t : Text) (p : Place)
    (leads : walk (step_of root nodes) Root t ≡ Some p) (value : ℕ → Data)
    (trees : (c k : ℕ) → step_of root nodes p c ≡ Some k → IsTree (table_of root nodes names) (t ++ c ∷ []) (value k))
  where
    abbrev P : Postings
    P = named names (entries_at root nodes p)

    child_parts : (es : Children) → ((c k : ℕ) → In (c, k) es → step_of root nodes p c ≡ Some k)
        → AreParts (table_of root nodes names) t (children_members value es)
    child_parts [] h = tt
    child_parts ((c, k) ∷ es) h = (
      inr (inr (c, refl, trees c k (h c k (inl refl)))),
      child_parts es (λ d j there. h d j (inr there)),
    )

    parts : (es : Children) → ((c k : ℕ) → In (c, k) es → step_of root nodes p c ≡ Some k)
        → AreParts (table_of root nodes names) t (place_members value P es)
    parts = members_by value P (λ es ms. ((c k : ℕ) → In (c, k) es → step_of root nodes p c ≡ Some k)
        → AreParts (table_of root nodes names) t ms)
        (λ es all h. (inr (inl refl), (inl refl, child_parts es h)))
        (λ c k es low more h. (inr (inr (c, refl, trees c k (h c k (inl refl)))), more (λ d j there. h d j (inr there))))

    same_known : (c : ℕ) → knows (table_of root nodes names) (t ++ c ∷ [])
        ≡ is_some (get_member (encode_utf8 c) (place_members value P (children_at root nodes p)))
    same_known c =
        knows_walk root nodes trie names (t ++ c ∷ [])
        ∙ ap is_some (walk_push (step_of root nodes) t Root c
        ∙ ap (option_and_then (last_step (step_of root nodes) c)) leads)
        ∙ either (step_of root nodes p c) ∙ sym (ap is_some (get_letter value P c (children_at root nodes p)))
      where
        either : (o : Option ℕ) → is_some (option_map At o) ≡ is_some (option_map value o)
        either None = refl
        either (Some k) = refl

    pub place_tree : IsTree (table_of root nodes names) t (object (place_members value P (children_at root nodes p)))
    place_tree =
        let es = children_at root nodes p in
        let rising = are_rising es (trie.in_order p) in
        let here = sym (postings_walk root nodes trie names t p leads) in (
          ordered value P es rising,
          get_docs value P es ∙ ap (λ Q. Some (object (frequencies (map.entries Q)))) here,
          get_df value P es ∙ ap (λ Q. Some (number (unsigned (map.len Q)))) here,
          λ c. (λ h. sym (same_known c) ∙ h, λ h. same_known c ∙ h),
          parts es (λ c k there. found es rising c k there),
        )

module _ (root : Children) (nodes : List Node) (trie : IsTrie root nodes) (names : Names) where
  -- a tree that is deep enough is whole
  tree_at : (n : ℕ) (t : Text) (k : ℕ) → walk (step_of root nodes) Root t ≡ Some (At k) → length nodes ≤ n + suc k
      → IsTree (table_of root nodes names) t (tree_of names nodes n k)
  tree_at zero t k leads deep = place_tree root nodes trie names t (At k) leads _
      (λ c j step. absurd (omega (arith, trie.forest.higher (At k) c j step, trie.forest.is_node (At k) c j step)))
  tree_at (suc n) t k leads deep = place_tree root nodes trie names t (At k) leads (tree_of names nodes n)
      (λ c j step. tree_at n (t ++ c ∷ []) j (walk_to (step_of root nodes) t c j Root (At k) leads step)
      (omega (arith, trie.forest.higher (At k) c j step)))

  pub root_tree : IsTree (table_of root nodes names) []
      (object (place_members (node_tree names nodes) (named names map.empty) root))
  unfolding node_tree
  root_tree = place_tree root nodes trie names [] Root refl (node_tree names nodes)
      (λ c k step. tree_at (length nodes) (c ∷ []) k (walk_to (step_of root nodes) [] c k Root Root refl step)
      (omega arith))

  -- the depth makes no difference
  same_children : (value other : ℕ → Data) (es : Children) → ((c k : ℕ) → In (c, k) es → value k ≡ other k)
      → children_members value es ≡ children_members other es
  same_children value other [] h = refl
  same_children value other ((c, k) ∷ es) h = λ i. member (encode_utf8 c) (h c k (inl refl) i)
      (same_children value other es (λ d j there. h d j (inr there)) i)

  same_members : (value other : ℕ → Data) (Q : Postings) (es : Children)
      → ((c k : ℕ) → In (c, k) es → value k ≡ other k) → place_members value Q es ≡ place_members other Q es
  same_members value other Q [] h = refl
  same_members value other Q ((c, k) ∷ es) h = elim (cases_lt 100 c) [
    | inl high_ ↦ high value Q c k es high_ ∙ ap (postings_before Q) (same_children value other ((c, k) ∷ es) h)
        ∙ sym (high other Q c k es high_)
    | inr low_ ↦ low value Q c k es low_ ∙ (λ i. member (encode_utf8 c) (h c k (inl refl) i)
        (same_members value other Q es (λ d j there. h d j (inr there)) i)) ∙ sym (low other Q c k es low_)
  ]

  child_of : (k c j : ℕ) → In (c, j) (children_of (slice_get nodes k)) → step_of root nodes (At k) c ≡ Some j
  child_of k c j there = found (children_of (slice_get nodes k)) (are_rising _ (trie.in_order (At k))) c j there

  deep_enough : (n m k : ℕ) → length nodes ≤ n + suc k → length nodes ≤ m + suc k → tree_of names nodes n k
      ≡ tree_of names nodes m k
  deep_enough zero zero k h g = refl
  deep_enough zero (suc m) k h g = ap object
      (same_members _ _ _ (children_of (slice_get nodes k))
      (λ c j there. absurd (omega (
        arith,
        h,
        trie.forest.higher (At k) c j (child_of k c j there),
        trie.forest.is_node
            (At k) c j (child_of k c j there),
      ))))
  deep_enough (suc n) zero k h g = ap object
      (same_members _ _ _ (children_of (slice_get nodes k))
      (λ c j there. absurd (omega (
        arith,
        g,
        trie.forest.higher (At k) c j (child_of k c j there),
        trie.forest.is_node
            (At k) c j (child_of k c j there),
      ))))
  deep_enough (suc n) (suc m) k h g = ap object (same_members _ _ _ (children_of (slice_get nodes k))
      (λ c j there. deep_enough n m j (omega (arith, h, trie.forest.higher (At k) c j (child_of k c j there)))
      (omega (arith, g, trie.forest.higher (At k) c j (child_of k c j there)))))

  pub has_trees : HasTrees names nodes
  unfolding node_tree
  has_trees k = deep_enough (length nodes) (suc (length nodes)) k (omega arith) (omega arith)
