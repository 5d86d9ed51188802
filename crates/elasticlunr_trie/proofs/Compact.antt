-- The nodes that are kept represent the postings of all, with no path that leads to none.
use Rattle.std.proofs.Common.{◌≡◌, ◌⊎◌, ◌↔◌, inl, inr, ℕ, suc, ◌+◌, ◌<◌, ◌≤◌, Bool, false, IsTrue, IsSome, is_some}
use Rattle.std.proofs.Common.{List, [], ◌∷◌, ◌++◌, length, set, unwrap_or, length-append, get_or, cond, Option, Some}
use Rattle.std.proofs.Common.{None, option_and_then, refl, sym, ap, subst, ◌∙◌, arith}
use Rattle.std.proofs.lemmas.Bool.{cases_lt, cases_eq, eq-eqb}
use Rattle.std.specs.List.{slice_get}
use Rattle.elasticlunr_error.specs.Text.{Text, Bytes}
use Rattle.elasticlunr_trie_nodes.specs.Table.{knows, posting, IsPrefix}
use Rattle.elasticlunr_trie_nodes.specs.Pairs.{IsStrictlySorted, Pairs, value_of}
use Rattle.elasticlunr_trie_nodes.specs.Frequencies.{Frequencies}
use Rattle.elasticlunr_trie_nodes.specs.Names.{at, Names, AreNames}
use Rattle.elasticlunr_trie.specs.Children.{Children, child}
use Rattle.elasticlunr_trie_nodes.specs.Nodes.{children_of, entries_of, AreAllNumbered}
use Rattle.elasticlunr_trie_nodes.specs.Trie.{rank, children_at, entries_at, step_of, walk, table_of, IsForest, IsTrie}
use Rattle.elasticlunr_trie_nodes.specs.Trie.{HaveOneParent, named}
use Rattle.elasticlunr_trie.specs.Compact.{Bears, is_marked, new_number, kept_children, KeepsBelow}
use Rattle.elasticlunr_trie_nodes.specs.declared.nodes.Node.{Node}
use Rattle.elasticlunr_trie_nodes.specs.declared.nodes.Place.{Place}
use Rattle.elasticlunr_trie_nodes.specs.declared.nodes.Place.TheVariants.{Root, At}
use Rattle.elasticlunr_trie_nodes.proofs.Places.{get_past, get_set, get_set_other, get_behind, get_before}
use Rattle.elasticlunr_trie_nodes.proofs.Forest.{walk_cons, walk_on, walk_after, walk_front, rises, within, one_path}
use Rattle.elasticlunr_trie_nodes.proofs.Forest.{AreChildren, children_from, one_parent_each}
use Rattle.elasticlunr_trie_nodes.proofs.Adding.{known_from, known_to, posting_walk, posting_none}
use Rattle.std.proofs.lemmas.List.{nil_from_length}
use mathlib.Core.Bool.{false≢true}
use Rattle.elasticlunr_trie_nodes.proofs.Frequencies.{find_value}
use Rattle.elasticlunr_trie_nodes.proofs.Settled.{bare_root}
use Rattle.elasticlunr_trie_nodes.proofs.Tables.{get_named}
use Rattle.elasticlunr_trie_nodes.proofs.Named.{at_name, number_there}
use Rattle.std.specs.FinMap.{find, get, entries, get-empty, get-entries}
use Rattle.std.specs.Ordering.{nat_cmp}
use Rattle.elasticlunr_trie.proofs.Marks.{number_below, number_next, number_stays, one_number, number_from, child_kept}
use Rattle.elasticlunr_trie.proofs.Marks.{kept_child, kept_sorted}

-- the nodes alone are a trie, too
pub below_trie : (root : Children) (nodes : List Node) → IsTrie root nodes → IsTrie [] nodes
below_trie root nodes trie = record {
  in_order = in_order;
  forest = record {
    higher = λ p c k e. trie.forest.higher p c k (here p c k e);
    is_node = λ p c k e. trie.forest.is_node p c k (here p c k e);
    one_parent = λ p q c d k e f. trie.forest.one_parent p q c d k (here p c k e) (here q d k f);
    one_character = λ p q c d k e f. trie.forest.one_character p q c d k (here p c k e) (here q d k f);
  };
  characters = λ p c k e. trie.characters p c k (here p c k e);
}
  where
    here : (p : Place) (c k : ℕ) → step_of [] nodes p c ≡ Some k → step_of root nodes p c ≡ Some k
    here Root c k e = absurd (cc)
    here (At j) c k e = e

    in_order : (p : Place) → IsStrictlySorted (children_at [] nodes p)
    in_order Root = λ i j lt in_range. absurd (omega arith)
    in_order (At k) = trie.in_order (At k)

-- below a node the root makes no difference
walk_below : (root : Children) (nodes : List Node) (t : Text) (k : ℕ) → walk (step_of [] nodes) (At k) t
    ≡ walk (step_of root nodes) (At k) t
walk_below root nodes [] k = refl
walk_below root nodes (c ∷ t) k = by (λ j. walk_below root nodes t j) (child (children_of (slice_get nodes k)) c)
  where
    by : ((j : ℕ) → walk (step_of [] nodes) (At j) t ≡ walk (step_of root nodes) (At j) t) → (o : Option ℕ)
        → option_and_then (λ j. walk (step_of [] nodes) (At j) t) o
        ≡ option_and_then (λ j. walk (step_of root nodes) (At j) t) o
    by more None = refl
    by more (Some j) = more j

same_entries : (root : Children) (nodes : List Node) (q : Place) → entries_at [] nodes q ≡ entries_at root nodes q
same_entries root nodes Root = refl
same_entries root nodes (At k) = refl

-- a node leads to a posting that it has, or to one of its children's
pub bears_here : (nodes : List Node) (k : ℕ) → (((r : ℕ) × (n : ℕ) × (get (entries_of (slice_get nodes k)) r ≡ Some n))
    ⊎ ((c : ℕ) × (j : ℕ) × (child (children_of (slice_get nodes k)) c ≡ Some j) × Bears nodes j)) ↔ Bears nodes k
bears_here nodes k = (to, λ b. from b.text b.place b.leads b.reference b.frequency b.own)
  where
    to : ((r : ℕ) × (n : ℕ) × (get (entries_of (slice_get nodes k)) r ≡ Some n))
        ⊎ ((c : ℕ) × (j : ℕ) × (child (children_of (slice_get nodes k)) c ≡ Some j) × Bears nodes j) → Bears nodes k
    to (inl own) = record { text = []; place = At k; leads = refl; reference = own.0; frequency = own.1; own = own.2 }
    to (inr other) =
        let b = other.3 in
        record {
          text = other.0 ∷ b.text;
          place = b.place;
          leads = walk_on (step_of [] nodes) (At k) other.0 other.1
              b.text other.2 ∙ b.leads;
          reference = b.reference;
          frequency = b.frequency;
          own = b.own;
        }

    from : (t : Text) (q : Place) → walk (step_of [] nodes) (At k) t ≡ Some q → (r : ℕ) (n : ℕ)
        → get (entries_at [] nodes q) r ≡ Some n
        → ((r : ℕ) × (n : ℕ) × (get (entries_of (slice_get nodes k)) r ≡ Some n))
        ⊎ ((c : ℕ) × (j : ℕ) × (child (children_of (slice_get nodes k)) c ≡ Some j) × Bears nodes j)
    from [] q e r n own =
        let here : At k ≡ q = cc in
        inl (r, n, ap (λ p. get (entries_at [] nodes p) r) here ∙ own)
    from (c ∷ t) q e r n own =
        let step = walk_cons (step_of [] nodes) (At k) q c t e in
        inr (c, step.0, step.1, record { text = t; place = q; leads = step.2; reference = r; frequency = n; own = own })

module _ (root : Children) (nodes : List Node) (trie : IsTrie root nodes) (names : Names) (marks : List Bool)
    (marked : (k : ℕ) → k < length nodes → IsTrue (is_marked marks k) ↔ Bears nodes k)
    (names2 : Names) (root2 : Children) (nodes2 : List Node) (is : root2 ≡ kept_children marks root)
    (keeps : KeepsBelow marks names nodes names2 nodes2 (length nodes)) (are : AreNames names)
    (numbered : AreAllNumbered names nodes) where
  abbrev pub moved : Place → Place
  moved Root = Root
  moved (At k) = At (new_number marks k)

  abbrev pub IsKept : Place → Type 0
  IsKept Root = Unit {0}
  IsKept (At k) = (k < length nodes) × IsTrue (is_marked marks k)

  new_children : (p : Place) → IsKept p → children_at root2 nodes2 (moved p)
      ≡ kept_children marks (children_at root nodes p)
  new_children Root kept = is
  new_children (At k) kept = keeps.children k kept.0 kept.1

  new_entries : (p : Place) → IsKept p → (r : Bytes) → at names2 r (entries_at root2 nodes2 (moved p))
      ≡ at names r (entries_at root nodes p)
  new_entries Root kept r = bare_root names2 r _ refl root2 nodes2 ∙ sym (bare_root names r _ refl root nodes)
  new_entries (At k) kept r = sym (get_named names2 _ r) ∙ ap (λ P. get P r) (keeps.entries k kept.0 kept.1)
      ∙ get_named names _ r

  moved_from : (b : ℕ) → b < length nodes2 → (k : ℕ) × IsKept (At k) × (b ≡ new_number marks k)
  moved_from b lt = let from = number_from marks (length nodes) b (omega (arith, keeps.count)) in
      (from.0, (from.1, from.2), sym from.3)

  -- a place of the new nodes is an old one under its new number
  which : (q : Place) → ((p : Place) × IsKept p × (q ≡ moved p)) ⊎ ((k : ℕ) × (q ≡ At k) × (length nodes2 ≤ k))
  which Root = inl (Root, tt, refl)
  which (At b) = elim (cases_lt b (length nodes2)) [
    | inl lt ↦ let from = moved_from b lt in inl (At from.0, from.1, ap At from.2)
    | inr past ↦ inr (b, refl, past)
  ]

  -- each new child is an old one under its new number
  step_back : (q : Place) (c a : ℕ) → step_of root2 nodes2 q c ≡ Some a → (p : Place) × (k : ℕ) × IsKept p
      × (q ≡ moved p) × (step_of root nodes p c ≡ Some k) × IsKept (At k) × (a ≡ new_number marks k)
  step_back q c a e = elim (which q) [
    | inr past ↦ let none : step_of root2 nodes2 q c ≡ None = ap (λ x. step_of root2 nodes2 x c) past.1
        ∙ ap (λ o. child (children_of o) c) (get_past nodes2 past.0 past.2) in absurd (cc)
    | inl from ↦
        let p = from.0 in
        let here = sym (ap (λ es. child es c) (ap (children_at root2 nodes2) from.2 ∙ new_children p from.1)) ∙ e in
        let old = kept_child marks (children_at root nodes p) (trie.in_order p) c a here in
        (p, old.0, from.1, from.2, old.1, (trie.forest.is_node p c old.0 old.1, old.2), old.3)
  ]

  rank_moved : (p : Place) (k : ℕ) → IsKept p → rank p ≤ k → IsKept (At k) → rank (moved p) ≤ new_number marks k
  rank_moved Root k kept low there = omega arith
  rank_moved (At j) k kept low there = omega (arith, number_below marks j k (omega arith) kept.1)

  new_forest : IsForest (step_of root2 nodes2) (length nodes2)
  new_forest = record {
    higher = λ q c a e.
        let old = step_back q c a e in
        subst (λ x. rank x ≤ a) (sym old.3) (subst (λ x. rank (moved old.0) ≤ x) (sym old.6)
        (rank_moved old.0 old.1 old.2 (trie.forest.higher old.0 c old.1 old.4) old.5));
    is_node = λ q c a e.
        let old = step_back q c a e in
        omega (arith, old.6, keeps.count, number_below marks old.1 (length nodes) old.5.0 old.5.1);
    one_parent = λ q r c d a e f.
        let one = step_back q c a e in
        let two = step_back r d a f in
        let same = one_number marks one.1 two.1 one.5.1 two.5.1 (sym one.6 ∙ two.6) in
        one.3 ∙ ap moved (trie.forest.one_parent one.0 two.0 c d one.1 one.4 (two.4 ∙ ap Some (sym same))) ∙ sym two.3;
    one_character = λ q r c d a e f.
        let one = step_back q c a e in
        let two = step_back r d a f in
        let same = one_number marks one.1 two.1 one.5.1 two.5.1 (sym one.6 ∙ two.6) in
        trie.forest.one_character one.0 two.0 c d one.1 one.4 (two.4 ∙ ap Some (sym same));
  }

  pub compact_trie : IsTrie root2 nodes2
  compact_trie = record {
    in_order = λ q. elim (which q) [
      | inl from ↦ subst (λ x. IsStrictlySorted (children_at root2 nodes2 x)) (sym from.2)
          (subst IsStrictlySorted (sym (new_children from.0 from.1))
          (kept_sorted marks (children_at root nodes from.0) (trie.in_order from.0)))
      | inr past ↦ subst (λ x. IsStrictlySorted (children_at root2 nodes2 x)) (sym past.1)
          (subst IsStrictlySorted (sym (ap children_of (get_past nodes2 past.0 past.2)))
          (λ i j lt in_range. absurd (omega arith)))
    ];
    forest = new_forest;
    characters = λ q c a e. let old = step_back q c a e in trie.characters old.0 c old.1 old.4;
  }

  -- what is on the way to a kept place is kept
  kept_between : (k : ℕ) (t : Text) (q : Place) → k < length nodes → walk (step_of root nodes) (At k) t ≡ Some q
      → IsKept q → IsKept (At k)
  kept_between k t Root low e kept = absurd
      (omega (arith, rises (step_of root nodes) (length nodes) trie.forest t (At k) Root e))
  kept_between k t (At m) low e kept =
      let b = (marked m kept.0).0 kept.1 in (
        low,
        (marked k low).1 (record {
          text = t ++ b.text;
          place = b.place;
          leads = walk_after (step_of [] nodes) t
              b.text (At k) (At m) (walk_below root nodes t k ∙ e) ∙ b.leads;
          reference = b.reference;
          frequency =
              b.frequency;
          own = b.own;
        }),
      )

  new_children_are : AreChildren (step_of root nodes) (length nodes)
      → AreChildren (step_of root2 nodes2) (length nodes2)
  new_children_are are a lt =
      let from = moved_from a lt in
      let child = are from.0 from.1.0 in
      let parent = kept_parent child.0 child.1 from.0 child.2 from.1 in (
        moved child.0,
        child.1,
        ap (λ es. value_of es child.1) (new_children child.0 parent)
            ∙ child_kept marks (children_at root nodes child.0) (trie.in_order child.0) child.1 from.0 child.2 from.1.1
            ∙ ap Some (sym from.2),
      )
    where
      kept_parent : (p : Place) (c k : ℕ) → step_of root nodes p c ≡ Some k → IsKept (At k) → IsKept p
      kept_parent Root c k e kept = tt
      kept_parent (At j) c k e kept =
          kept_between j (c ∷ []) (At k) (omega (
            arith,
            trie.forest.higher (At j) c k e,
            trie.forest.is_node (At j) c k
                e,
          )) (walk_on (step_of root nodes) (At j) c k [] e) kept

  pub compact_parents : HaveOneParent (step_of root nodes) (length nodes)
      → HaveOneParent (step_of root2 nodes2) (length nodes2)
  compact_parents parents =
      one_parent_each (step_of root2 nodes2) (length nodes2) (length nodes2) new_forest
      (new_children_are (children_from (step_of root nodes) (length nodes) parents))

  -- a place with a posting is kept
  kept_posting : (q : Place) (r : Bytes) (n : ℕ) → rank q ≤ length nodes → at names r (entries_at root nodes q) ≡ Some n
      → IsKept q
  kept_posting Root r n low e = tt
  kept_posting (At k) r n low e =
      let number = number_there names r (entries_at root nodes (At k)) n e in (
        omega arith,
        (marked k (omega arith)).1
            (record { text = []; place = At k; leads = refl; reference = number.0; frequency = n; own = number.2 }),
      )

  -- a path to a kept place is kept
  walk_kept : (t : Text) (p q : Place) → IsKept p → walk (step_of root nodes) p t ≡ Some q → IsKept q
      → walk (step_of root2 nodes2) (moved p) t ≡ Some (moved q)
  walk_kept [] p q from e kept = let same : p ≡ q = cc in ap (λ x. Some (moved x)) same
  walk_kept (c ∷ t) p q from e kept =
      let step = walk_cons (step_of root nodes) p q c t e in
      let next = kept_between step.0 t q (trie.forest.is_node p c step.0 step.1) step.2 kept in
      let there = ap (λ es. child es c) (new_children p from)
      ∙ child_kept marks (children_at root nodes p) (trie.in_order p) c step.0 step.1 next.1 in
      walk_on (step_of root2 nodes2) (moved p) c (new_number marks step.0) t there
      ∙ walk_kept t (At step.0) q next step.2 kept

  -- a kept path is an old one
  walk_back : (t : Text) (p q2 : Place) → IsKept p → walk (step_of root2 nodes2) (moved p) t ≡ Some q2 → (q : Place)
      × IsKept q × (walk (step_of root nodes) p t ≡ Some q) × (q2 ≡ moved q)
  walk_back [] p q2 from e = (p, from, refl, (cc))
  walk_back (c ∷ t) p q2 from e =
      let step = walk_cons (step_of root2 nodes2) (moved p) q2 c t e in
      let old = kept_child marks (children_at root nodes p) (trie.in_order p) c step.0
      (sym (ap (λ es. child es c) (new_children p from)) ∙ step.1) in
      let next : IsKept (At old.0) = (trie.forest.is_node p c old.0 old.1, old.2) in
      let more = walk_back t (At old.0) q2 next (ap (λ x. walk (step_of root2 nodes2) (At x) t) (sym old.3) ∙ step.2) in
      (more.0, more.1, walk_on (step_of root nodes) p c old.0 t old.1 ∙ more.2, more.3)

  pub compact_postings : (s : Text) (r : Bytes) → posting (table_of root2 nodes2 names2) s r
      ≡ posting (table_of root nodes names) s r
  compact_postings s r = by (walk (step_of root2 nodes2) Root s) refl
    where
      gone : walk (step_of root2 nodes2) Root s ≡ None → (o : Option Place) → walk (step_of root nodes) Root s ≡ o
          → posting (table_of root nodes names) s r ≡ None
      gone none None e = posting_none root nodes trie names s r e
      gone none (Some q) e = posting_walk root nodes trie names s q r e
          ∙ here (at names r (entries_at root nodes q)) refl
        where
          here : (o : Option ℕ) → at names r (entries_at root nodes q) ≡ o → at names r (entries_at root nodes q) ≡ None
          here None f = f
          here (Some n) f =
              let kept = kept_posting q r n (within (step_of root nodes) (length nodes) trie.forest s Root q
              (omega arith) e) f in
              let some = walk_kept s Root q tt e kept in
              absurd (cc)

      by : (o : Option Place) → walk (step_of root2 nodes2) Root s ≡ o → posting (table_of root2 nodes2 names2) s r
          ≡ posting (table_of root nodes names) s r
      by None e = posting_none root2 nodes2 compact_trie names2 s r e
          ∙ sym (gone e (walk (step_of root nodes) Root s) refl)
      by (Some q2) e =
          let old = walk_back s Root q2 tt e in
          posting_walk root2 nodes2 compact_trie names2 s q2 r e ∙ ap (λ x. at names2 r (entries_at root2 nodes2 x))
          old.3 ∙ new_entries old.0 old.1 r ∙ sym (posting_walk root nodes trie names s old.0 r old.2)

  abbrev pub AsFar : Text → Type 0
  AsFar s = (t : Text) × (r : Bytes) × IsPrefix s t × IsSome (posting (table_of root nodes names) t r)

  pub compact_known : (s : Text) → IsTrue (knows (table_of root2 nodes2 names2) s) ↔ ((s ≡ []) ⊎ AsFar s)
  compact_known s = (to, from)
    where
      named_place : (q : Place) (n f : ℕ) → get (entries_at [] nodes q) n ≡ Some f → n < length names
      named_place Root n f e = let none : get (entries_at [] nodes Root) n ≡ None = get-empty nat_cmp n in absurd (cc)
      named_place (At k) n f e = numbered k n f e

      far : (q : Place) → IsKept q → walk (step_of root nodes) Root s ≡ Some q → (s ≡ []) ⊎ AsFar s
      far Root kept e = inl (one_path (step_of root nodes) (length nodes) trie.forest s [] Root e refl)
      far (At k) kept e =
          let b = (marked k kept.0).0 kept.1 in
          let leads = walk_after (step_of root nodes) s b.text Root (At k) e ∙ sym (walk_below root nodes b.text k)
          ∙ b.leads in
          let low = named_place b.place b.reference b.frequency b.own in
          let name = get_or names b.reference [] in
          inr (
            s ++ b.text,
            name,
            (b.text, refl),
            ap is_some (posting_walk root nodes trie names (s ++ b.text) b.place name leads
                ∙ ap (at names name) (sym (same_entries root nodes b.place))
                ∙ at_name names are (entries_at [] nodes b.place) b.reference low ∙ b.own),
          )

      to : IsTrue (knows (table_of root2 nodes2 names2) s) → (s ≡ []) ⊎ AsFar s
      to known =
          let new = known_to root2 nodes2 compact_trie names2 s known in
          let old = walk_back s Root new.0 tt new.1 in
          far old.0 old.1 old.2

      kept : (p q : Place) (rest : Text) (r n : ℕ) → walk (step_of root nodes) Root s ≡ Some p
          → walk (step_of root nodes) p rest ≡ Some q → get (entries_at root nodes q) r ≡ Some n → IsKept p
      kept Root q rest r n e f own = tt
      kept (At k) q rest r n e f own =
          let low : k < length nodes = omega (
            arith,
            within (step_of root nodes) (length nodes) trie.forest s Root
                (At k) (omega arith) e,
          ) in (
            low,
            (marked k low).1 (record {
              text = rest;
              place = q;
              leads = walk_below root nodes rest k
                  ∙ f;
              reference = r;
              frequency = n;
              own = ap (λ P. get P r) (same_entries root nodes q) ∙ own;
            }),
          )

      reached : (t : Text) (r : Bytes) → IsPrefix s t → (o : Option ℕ) → posting (table_of root nodes names) t r ≡ o
          → IsSome o → IsTrue (knows (table_of root2 nodes2 names2) s)
      reached t r prefix None e some = absurd (cc)
      reached t r prefix (Some n) e some = by (walk (step_of root nodes) Root t) refl
        where
          by : (o : Option Place) → walk (step_of root nodes) Root t ≡ o
              → IsTrue (knows (table_of root2 nodes2 names2) s)
          by None none = let nothing = posting_none root nodes trie names t r none in absurd (cc)
          by (Some q) leads =
              let whole = ap (walk (step_of root nodes) Root) prefix.1 ∙ leads in
              let front = walk_front (step_of root nodes) s prefix.0 Root q whole in
              let rest = sym (walk_after (step_of root nodes) s prefix.0 Root front.0 front.1) ∙ whole in
              let number = number_there names r (entries_at root nodes q) n
              (sym (posting_walk root nodes trie names t q r leads) ∙ e) in
              known_from root2 nodes2 compact_trie names2 s (moved front.0)
              (walk_kept s Root front.0 tt front.1 (kept front.0 q prefix.0 number.0 n front.1 rest number.2))

      from : (s ≡ []) ⊎ AsFar s → IsTrue (knows (table_of root2 nodes2 names2) s)
      from (inl none) = ap (knows (table_of root2 nodes2 names2)) none ∙ known_from root2 nodes2 compact_trie names2 []
          Root refl
      from (inr as_far) = reached as_far.0 as_far.1 as_far.2 (posting (table_of root nodes names) as_far.0 as_far.1)
          refl as_far.3

-- pairs that are not empty tell a posting
pub some_posting : (P : Frequencies) → (length (entries P) ≡ 0 → ⊥) → (r : ℕ) × (n : ℕ) × (get P r ≡ Some n)
some_posting P more = by (entries P) refl
  where
    by : (l : Pairs) → entries P ≡ l → (r : ℕ) × (n : ℕ) × (get P r ≡ Some n)
    by [] is = absurd (more (ap length is))
    by (e ∷ l) is = (
      e.0,
      e.1,
      get-entries P e.0 ∙ find_value (entries P) e.0 ∙ ap (λ es. value_of es e.0) is
          ∙ ap (λ b. cond b (Some e.1) (value_of l e.0)) (eq-eqb e.0 e.0 refl),
    )

pub bare_posting : (P : Frequencies) → length (entries P) ≡ 0 → (r n : ℕ) → get P r ≡ Some n → ⊥
bare_posting P none r n e = let nothing : get P r ≡ None = get-entries P r
    ∙ ap (find nat_cmp r) (nil_from_length (entries P) none) in cc

-- one more node is marked
module _ (nodes : List Node) (trie : IsTrie [] nodes) (marks : List Bool) (i : ℕ) (b : Bool) (low : i < length nodes)
    (count : length marks ≡ length nodes)
    (each : (k : ℕ) → i < k → k < length nodes → IsTrue (is_marked marks k) ↔ Bears nodes k)
    (tells : IsTrue b ↔ (((r : ℕ) × (n : ℕ) × (get (entries_of (slice_get nodes i)) r ≡ Some n))
    ⊎ ((c : ℕ) × (k : ℕ) × (child (children_of (slice_get nodes i)) c ≡ Some k) × IsTrue (is_marked marks k))))
  where
    here : is_marked (set marks i b) i ≡ b
    here = ap (λ o. unwrap_or o false) (get_set marks i b (omega arith))

    to : IsTrue b → Bears nodes i
    to h = elim (tells.0 h) [
      | inl own ↦ (bears_here nodes i).0 (inl own)
      | inr other ↦ (bears_here nodes i).0 (inr (
        other.0,
        other.1,
        other.2,
        (each other.1 (trie.forest.higher (At i) other.0 other.1 other.2)
            (trie.forest.is_node (At i) other.0 other.1 other.2)).0 other.3,
      ))
    ]

    from : Bears nodes i → IsTrue b
    from bears = elim ((bears_here nodes i).1 bears) [
      | inl own ↦ tells.1 (inl own)
      | inr other ↦ tells.1 (inr (
        other.0,
        other.1,
        other.2,
        (each other.1 (trie.forest.higher (At i) other.0 other.1 other.2)
            (trie.forest.is_node (At i) other.0 other.1 other.2)).1 other.3,
      ))
    ]

    pub one_marked : (k : ℕ) → i ≤ k → k < length nodes → IsTrue (is_marked (set marks i b) k) ↔ Bears nodes k
    one_marked k le lt = elim (cases_eq k i) [
      | inl same ↦ subst (λ x. IsTrue (is_marked (set marks i b) x) ↔ Bears nodes x) (sym same)
          (λ h. to (sym here ∙ h), λ bears. here ∙ from bears)
      | inr apart ↦
          let other : is_marked (set marks i b) k ≡ is_marked marks k = ap (λ o. unwrap_or o false)
          (get_set_other marks k i b apart) in
          let is = each k (omega arith) lt in
          (λ h. is.0 (sym other ∙ h), λ bears. other ∙ is.1 bears)
    ]

-- no node is kept yet
pub none_kept : (marks : List Bool) (names : Names) (nodes : List Node) (names2 : Names)
    → KeepsBelow marks names nodes names2 [] 0
none_kept marks names nodes names2 = record {
  count = refl;
  children = λ k lt. absurd (omega arith);
  entries =
      λ k lt. absurd (omega arith);
}

module _ (marks : List Bool) (names : Names) (nodes : List Node) (names2 : Names) (kept : List Node) (i : ℕ)
    (keeps : KeepsBelow marks names nodes names2 kept i) where
  -- a node without a mark is left out
  pub left_out : is_marked marks i ≡ false → KeepsBelow marks names nodes names2 kept (i + 1)
  left_out unmarked = record {
    count = keeps.count ∙ sym (number_stays marks i unmarked) ∙ ap (new_number marks) next;
    children = λ k lt marked. keeps.children k (before k lt marked) marked;
    entries = λ k lt marked. keeps.entries k (before k lt marked) marked;
  }
    where
      next : suc i ≡ i + 1
      next = omega arith

      before : (k : ℕ) → k < i + 1 → IsTrue (is_marked marks k) → k < i
      before k lt marked = elim (cases_eq k i) [
        | inl same ↦ absurd (false≢true (sym unmarked ∙ sym (ap (is_marked marks) same) ∙ marked))
        | inr apart ↦ omega arith
      ]

  -- a node with a mark comes last
  module _ (node : Node) (marked : IsTrue (is_marked marks i)) (children : node.children.items
      ≡ kept_children marks (children_of (slice_get nodes i))) (names3 : Names) (entries : named names3 node.postings
      ≡ named names (entries_of (slice_get nodes i))) (same_entries : (k : ℕ)
      → named names3 (entries_of (slice_get kept k)) ≡ named names2 (entries_of (slice_get kept k))) where
    last : slice_get (kept ++ node ∷ []) (new_number marks i) ≡ Some node
    last = get_behind kept (node ∷ []) (new_number marks i) 0 (omega (arith, keeps.count))

    before : (k : ℕ) → k < i → IsTrue (is_marked marks k) → slice_get (kept ++ node ∷ []) (new_number marks k)
        ≡ slice_get kept (new_number marks k)
    before k lt mark = get_before kept (node ∷ []) (new_number marks k)
        (omega (arith, keeps.count, number_below marks k i lt mark))

    pub put_behind : KeepsBelow marks names nodes names3 (kept ++ node ∷ []) (i + 1)
    put_behind = record {
      count = omega (
        arith,
        length-append kept (node ∷ []),
        keeps.count,
        number_next marks i marked,
        ap (new_number marks) next,
      );
      children = λ k lt mark. elim (cases_eq k i) [
        | inl same ↦ subst (λ x. children_of (slice_get (kept ++ node ∷ []) (new_number marks x))
            ≡ kept_children marks (children_of (slice_get nodes x))) (sym same) (ap children_of last ∙ children)
        | inr apart ↦ ap children_of (before k (omega arith) mark) ∙ keeps.children k (omega arith) mark
      ];
      entries = λ k lt mark. elim (cases_eq k i) [
        | inl same ↦ subst (λ x. named names3 (entries_of (slice_get (kept ++ node ∷ []) (new_number marks x)))
            ≡ named names (entries_of (slice_get nodes x))) (sym same) (ap (λ o. named names3 (entries_of o)) last
            ∙ entries)
        | inr apart ↦ ap (λ o. named names3 (entries_of o)) (before k (omega arith) mark)
            ∙ same_entries (new_number marks k) ∙ keeps.entries k (omega arith) mark
      ];
    }
      where
        next : i + 1 ≡ suc i
        next = omega arith
