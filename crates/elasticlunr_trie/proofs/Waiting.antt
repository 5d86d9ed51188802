-- Nodes that are read one after another, while the values of their children wait.
use Rattle.std.proofs.Common.{◌≡◌, ◌≢◌, ◌⊎◌, inl, inr, ℕ, zero, suc, ◌+◌, ◌<◌, ◌≤◌, List, [], ◌∷◌, ◌++◌, length, Option}
use Rattle.std.proofs.Common.{Some, None, option_map, option_and_then, encode_utf8, refl, sym, ap, subst, ◌∙◌, arith}
use Rattle.std.proofs.Common.{length-append, string_bytes, String, Global}
use Rattle.std.proofs.lemmas.Bool.{cases_eq, cases_lt}
use Rattle.std.proofs.lemmas.Cmp.{nat_list_cmp_total, tied_itself}
use Rattle.std.specs.List.{slice_get}
use Rattle.std.specs.FinMap as map
use Rattle.serde_json.specs.Data.{Data, object, Members}
use Rattle.serde_json.specs.Find.{get_member}
use Rattle.serde_json.specs.View.{view}
use Rattle.serde_json.specs.declared.value.Value.{Value}
use Rattle.elasticlunr_error.specs.Text.{Text}
use Rattle.elasticlunr_trie_nodes.specs.Table.{Table, IsTable, postings, posting, Entries, postings_of}
use Rattle.elasticlunr_trie.specs.Tree.{IsTree, frequencies}
use Rattle.elasticlunr_trie_nodes.specs.Pairs.{IsStrictlySorted, value_of}
use Rattle.elasticlunr_trie_nodes.specs.Names.{Names}
use Rattle.elasticlunr_trie.specs.Children.{Children, child}
use Rattle.elasticlunr_trie_nodes.specs.Nodes.{children_of, entries_of}
use Rattle.elasticlunr_trie_nodes.specs.Trie.{rank, walk, IsForest, children_at, entries_at, step_of, table_of, IsTrie}
use Rattle.elasticlunr_trie_nodes.specs.Trie.{AreCharacters, named, HaveOneParent}
use Rattle.elasticlunr_trie.specs.Finished.{value_at, IsNode}
use Rattle.elasticlunr_trie.specs.Reading.{ReadsNode}
use Rattle.elasticlunr_trie_nodes.specs.declared.nodes.Node.{Node}
use Rattle.elasticlunr_trie_nodes.specs.declared.nodes.Place.{Place}
use Rattle.elasticlunr_trie_nodes.specs.declared.nodes.Place.TheVariants.{Root, At}
use Rattle.elasticlunr_trie_nodes.proofs.Places.{get_before, get_behind, get_past}
use Rattle.elasticlunr_trie_nodes.proofs.Forest.{same_place, walk_to, AreChildren, one_parent_each}
use Rattle.elasticlunr_trie.proofs.Finishing.{node_tree}
use Rattle.elasticlunr_trie.proofs.Unique.{part_at, same_docs}
use Rattle.elasticlunr_trie_nodes.proofs.Entries.{bytes_of}
use Rattle.elasticlunr_trie_nodes.proofs.Named.{no_names}

-- the value that a place is read from
abbrev pub data_at : Data → List Value → Place → Option Data
data_at d vs Root = Some d
data_at d vs (At k) = value_at vs k

-- a place has the children and the entries that its value tells
pub record HasNode (names : Names) (root : Children) (nodes : List Node) (d : Data) (vs : List Value) (p : Place) : Type
    0 where
  pub members : Members
  pub is : data_at d vs p ≡ Some (object members)
  pub node : IsNode (children_at root nodes p) vs
      (object (frequencies (map.entries (named names (entries_at root nodes p)))))
      (map.len (named names (entries_at root nodes p))) members

-- The nodes are read from the first of the values. A table with the whole value has at some text what each of these
-- values tells.
pub record IsRead (names : Names) (root : Children) (nodes : List Node) (d : Data) (vs : List Value) : Type 0 where
  pub low : length nodes ≤ length vs
  pub in_order : (p : Place) → IsStrictlySorted (children_at root nodes p)
  pub forest : IsForest (step_of root nodes) (length vs)
  pub children : AreChildren (step_of root nodes) (length vs)
  pub characters : (p : Place) → AreCharacters (children_at root nodes p)
  pub read : (p : Place) → rank p ≤ length nodes → HasNode names root nodes d vs p
  pub possible : (T : Table) → IsTable T → IsTree T [] d → (k : ℕ) (v : Value) → slice_get vs k ≡ Some v → (p : Text)
      × IsTree T p (view v)

-- a node stays what it is when more values wait
later_value : (kids : Children) (vs more : List Value) → ((c k : ℕ) → child kids c ≡ Some k → k < length vs) → (c : ℕ)
    → option_and_then (value_at vs) (child kids c) ≡ option_and_then (value_at (vs ++ more)) (child kids c)
later_value kids vs more there c = by (child kids c) refl
  where
    by : (o : Option ℕ) → child kids c ≡ o → option_and_then (value_at vs) (child kids c)
        ≡ option_and_then (value_at (vs ++ more)) (child kids c)
    by None e = ap (option_and_then (value_at vs)) e ∙ sym (ap (option_and_then (value_at (vs ++ more))) e)
    by (Some k) e = ap (option_and_then (value_at vs)) e
        ∙ ap (option_map view) (sym (get_before vs more k (there c k e)))
        ∙ sym (ap (option_and_then (value_at (vs ++ more))) e)

later_node : (kids : Children) (vs more : List Value) (docs : Data) (df : ℕ) (ms : Members)
    → ((c k : ℕ) → child kids c ≡ Some k → k < length vs) → IsNode kids vs docs df ms
    → IsNode kids (vs ++ more) docs df ms
later_node kids vs more docs df ms there node = record {
  order = node.order;
  docs_there = node.docs_there;
  df_there = node.df_there;
  present = λ c. node.present c ∙ later_value kids vs more there c;
  only = node.only;
}

get_inside : {A : Type 0} (xs : List A) (k : ℕ) (x : A) → slice_get xs k ≡ Some x → k < length xs
get_inside xs k x e = elim (cases_lt k (length xs)) [
  | inl lt ↦ lt
  | inr past ↦ let none = get_past xs k past in absurd (cc)
]

-- what waits after a node is at some text of each table that has the node's value
child_possible : (kids : Children) (es : Entries) (old new : List Value) (d : Data) → ReadsNode kids es old new d
    → (T : Table) (p : Text) → IsTree T p d → (k : ℕ) (v : Value) → length old ≤ k → slice_get new k ≡ Some v
    → (q : Text) × IsTree T q (view v)
child_possible kids es old new d reads T p tree k v low there =
    let whole = subst (IsTree T p) reads.is tree in
    let c = reads.values.each k low (get_inside new k v there) in
    let found : get_member (encode_utf8 c.0) reads.members ≡ Some (view v) = reads.node.present c.0
    ∙ ap (option_and_then (value_at new)) c.1 ∙ ap (option_map view) there in
    (p ++ c.0 ∷ [], part_at T p reads.members c.0 (view v) whole.4 found)

no_node : (root : Children) (p : Place) → p ≢ Root → children_at root [] p ≡ []
no_node root Root apart = absurd (apart refl)
no_node root (At k) apart = refl

none_of : postings_of [] ≡ map.empty
none_of = refl

-- the root is read
pub root_read : (names : Names) (kids : Children) (es : Entries) (new : List Value) (d : Data)
    → ReadsNode kids es [] new d → es ≡ [] → IsRead names kids [] d new
root_read names kids es new d reads bare = record {
  low = omega arith;
  in_order = order;
  forest = record {
    higher = higher;
    is_node = inside;
    one_parent = parent;
    one_character = character;
  };
  children = λ k lt. let child = reads.values.each k (omega arith) lt in (Root, child.0, child.1);
  characters = letters;
  read = at_root;
  possible = λ T table tree k v there. child_possible kids es [] new d reads T [] tree k v (omega arith) there;
}
  where
    order : (p : Place) → IsStrictlySorted (children_at kids [] p)
    order Root = reads.values.sorted
    order (At k) = λ i j lt in_range. absurd (omega arith)

    letters : (p : Place) → AreCharacters (children_at kids [] p)
    letters Root = reads.values.characters
    letters (At k) = λ c j e. absurd (cc)

    higher : (p : Place) (c k : ℕ) → step_of kids [] p c ≡ Some k → rank p ≤ k
    higher Root c k e = omega arith
    higher (At j) c k e = absurd (cc)

    inside : (p : Place) (c k : ℕ) → step_of kids [] p c ≡ Some k → k < length new
    inside Root c k e = (reads.values.fresh c k e).1
    inside (At j) c k e = absurd (cc)

    parent : (p q : Place) (c d k : ℕ) → step_of kids [] p c ≡ Some k → step_of kids [] q d ≡ Some k → p ≡ q
    parent Root Root c d k e f = refl
    parent Root (At j) c d k e f = absurd (cc)
    parent (At j) q c d k e f = absurd (cc)

    character : (p q : Place) (c d k : ℕ) → step_of kids [] p c ≡ Some k → step_of kids [] q d ≡ Some k → c ≡ d
    character Root Root c d k e f = reads.values.apart c d k e f
    character Root (At j) c d k e f = absurd (cc)
    character (At j) q c d k e f = absurd (cc)

    at_root : (p : Place) → rank p ≤ 0 → HasNode names kids [] d new p
    at_root Root low = record {
      members = reads.members;
      is = ap Some reads.is;
      node = subst (λ P. IsNode kids new (object (frequencies (map.entries P))) (map.len P) reads.members)
          (ap postings_of bare ∙ none_of ∙ sym (no_names names)) reads.node;
    }
    at_root (At k) low = absurd (omega arith)

-- one more node at the end
get_other : {A : Type 0} (xs : List A) (x : A) (k : ℕ) → k ≢ length xs → slice_get (xs ++ x ∷ []) k ≡ slice_get xs k
get_other [] x zero other = absurd (other refl)
get_other [] x (suc k) other = refl
get_other (y ∷ xs) x zero other = refl
get_other (y ∷ xs) x (suc k) other = get_other xs x k (λ e. other (ap suc e))

module _ (names names2 : Names) (root : Children) (nodes : List Node) (d : Data) (vs new : List Value)
    (before : IsRead names root nodes d vs) (v : Value) (there : slice_get vs (length nodes) ≡ Some v) (node : Node)
    (es : Entries) (reads : ReadsNode node.children.items es vs new (view v))
    (told : named names2 node.postings ≡ postings_of es) (same_postings : (q : Place)
    → named names2 (entries_at root nodes q) ≡ named names (entries_at root nodes q)) where
  abbrev pub after : List Node
  after = nodes ++ node ∷ []

  longer : length after ≡ suc (length nodes)
  longer = omega (arith, length-append nodes (node ∷ []))

  in_range : length nodes < length vs
  in_range = get_inside vs (length nodes) v there

  grows : length new ≡ length vs + length reads.values.more
  grows = ap length reads.values.grown ∙ length-append vs reads.values.more

  here : slice_get after (length nodes) ≡ Some node
  here = get_behind nodes (node ∷ []) (length nodes) 0 (omega arith)

  other_children : (q : Place) → q ≢ At (length nodes) → children_at root after q ≡ children_at root nodes q
  other_children Root apart = refl
  other_children (At k) apart = ap children_of (get_other nodes node k (λ e. apart (ap At e)))

  other_entries : (q : Place) → q ≢ At (length nodes) → entries_at root after q ≡ entries_at root nodes q
  other_entries Root apart = refl
  other_entries (At k) apart = ap entries_of (get_other nodes node k (λ e. apart (ap At e)))

  new_children : (q : Place) → q ≡ At (length nodes) → children_at root after q ≡ node.children.items
  new_children q is = ap (children_at root after) is ∙ ap children_of here

  new_entries : (q : Place) → q ≡ At (length nodes) → entries_at root after q ≡ node.postings
  new_entries q is = ap (entries_at root after) is ∙ ap entries_of here

  -- each child is the new node's, or an old one
  either : (q : Place) (c k : ℕ) → step_of root after q c ≡ Some k
      → ((q ≡ At (length nodes)) × (child node.children.items c ≡ Some k)) ⊎ (step_of root nodes q c ≡ Some k)
  either q c k e = elim (same_place q (At (length nodes))) [
    | inl is ↦ inl (is, sym (ap (λ es. child es c) (new_children q is)) ∙ e)
    | inr apart ↦ inr (sym (ap (λ es. child es c) (other_children q apart)) ∙ e)
  ]

  more_forest : IsForest (step_of root after) (length new)
  more_forest = record {
    higher = λ q c k e. elim (either q c k e) [
      | inl fresh ↦
          let r : rank q ≡ suc (length nodes) = ap rank fresh.0 in
          omega (arith, r, (reads.values.fresh c k fresh.1).0, in_range)
      | inr old ↦ before.forest.higher q c k old
    ];
    is_node = λ q c k e. elim (either q c k e) [
      | inl fresh ↦ (reads.values.fresh c k fresh.1).1
      | inr old ↦ omega (arith, before.forest.is_node q c k old, grows)
    ];
    one_parent = λ q r c x k e f. elim (either q c k e) [
      | inl fresh ↦ elim (either r x k f) [
        | inl too ↦ fresh.0 ∙ sym too.0
        | inr old ↦ absurd (omega (arith, (reads.values.fresh c k fresh.1).0, before.forest.is_node r x k old))
      ]
      | inr old ↦ elim (either r x k f) [
        | inl fresh ↦ absurd (omega (arith, (reads.values.fresh x k fresh.1).0, before.forest.is_node q c k old))
        | inr too ↦ before.forest.one_parent q r c x k old too
      ]
    ];
    one_character = λ q r c x k e f. elim (either q c k e) [
      | inl fresh ↦ elim (either r x k f) [
        | inl too ↦ reads.values.apart c x k fresh.1 too.1
        | inr old ↦ absurd (omega (arith, (reads.values.fresh c k fresh.1).0, before.forest.is_node r x k old))
      ]
      | inr old ↦ elim (either r x k f) [
        | inl fresh ↦ absurd (omega (arith, (reads.values.fresh x k fresh.1).0, before.forest.is_node q c k old))
        | inr too ↦ before.forest.one_character q r c x k old too
      ]
    ];
  }

  more_children : AreChildren (step_of root after) (length new)
  more_children k lt = elim (cases_lt k (length vs)) [
    | inl old ↦ let child = before.children k old in (child.0, child.1, stays child.0 child.1 child.2)
    | inr fresh ↦ let child = reads.values.each k fresh lt in
        (At (length nodes), child.0, ap (λ es. value_of es child.0) (new_children (At (length nodes)) refl) ∙ child.1)
  ]
    where
      stays : (q : Place) (c : ℕ) → step_of root nodes q c ≡ Some k → step_of root after q c ≡ Some k
      stays q c e = elim (same_place q (At (length nodes))) [
        | inr apart ↦ ap (λ es. value_of es c) (other_children q apart) ∙ e
        | inl is ↦
            let none : step_of root nodes q c ≡ None = ap (λ x. step_of root nodes x c) is
            ∙ ap (λ o. value_of (children_of o) c) (get_past nodes (length nodes) (omega arith)) in
            absurd (cc)
      ]

  -- a value stays where it is
  same_value : (k : ℕ) → k < length vs → slice_get new k ≡ slice_get vs k
  same_value k lt = ap (λ xs. slice_get xs k) reads.values.grown ∙ get_before vs reads.values.more k lt

  same_data : (q : Place) → rank q ≤ length vs → data_at d new q ≡ data_at d vs q
  same_data Root low = refl
  same_data (At k) low = ap (option_map view) (same_value k (omega arith))

  new_node : (q : Place) → q ≡ At (length nodes) → HasNode names2 root after d new q
  new_node q is = record {
    members = reads.members;
    is = ap (data_at d new) is ∙ ap (option_map view) (same_value (length nodes) in_range ∙ there) ∙ ap Some reads.is;
    node = subst (λ kids. IsNode kids new (object (frequencies (map.entries (named names2 (entries_at root after q)))))
        (map.len (named names2 (entries_at root after q))) reads.members) (sym (new_children q is))
        (subst (λ P. IsNode node.children.items new (object (frequencies (map.entries P))) (map.len P) reads.members)
        (sym (ap (named names2) (new_entries q is) ∙ told)) reads.node);
  }

  old_node : (q : Place) → q ≢ At (length nodes) → rank q ≤ length nodes → HasNode names2 root after d new q
  old_node q apart low =
      let old = before.read q low in
      record {
        members = old.members;
        is = same_data q (omega (arith, before.low)) ∙ old.is;
        node = subst (λ xs. IsNode (children_at root after q) xs
            (object (frequencies (map.entries (named names2 (entries_at root after q)))))
            (map.len (named names2 (entries_at root after q))) old.members) (sym reads.values.grown)
            (subst (λ kids. IsNode kids (vs ++ reads.values.more)
            (object (frequencies (map.entries (named names2 (entries_at root after q)))))
            (map.len (named names2 (entries_at root after q))) old.members) (sym (other_children q apart))
            (subst (λ P. IsNode (children_at root nodes q) (vs ++ reads.values.more)
            (object (frequencies (map.entries P))) (map.len P) old.members)
            (sym (ap (named names2) (other_entries q apart) ∙ same_postings q))
            (later_node (children_at root nodes q) vs reads.values.more _ _ old.members
            (λ c k e. before.forest.is_node q c k e) old.node)));
      }

  rank_other : (q : Place) → q ≢ At (length nodes) → rank q ≤ suc (length nodes) → rank q ≤ length nodes
  rank_other Root apart low = omega arith
  rank_other (At k) apart low = elim (cases_eq k (length nodes)) [
    | inl same ↦ absurd (apart (ap At same))
    | inr other ↦
        omega arith
  ]

  -- one more node is read
  pub node_read : IsRead names2 root after d new
  node_read = record {
    low = omega (arith, longer, in_range, grows);
    in_order = λ q. elim (same_place q (At (length nodes))) [
      | inl is ↦ subst IsStrictlySorted (sym (new_children q is)) reads.values.sorted
      | inr apart ↦ subst IsStrictlySorted (sym (other_children q apart)) (before.in_order q)
    ];
    forest = more_forest;
    children = more_children;
    characters = λ q. elim (same_place q (At (length nodes))) [
      | inl is ↦ subst AreCharacters (sym (new_children q is)) reads.values.characters
      | inr apart ↦ subst AreCharacters (sym (other_children q apart)) (before.characters q)
    ];
    read = λ q low. elim (same_place q (At (length nodes))) [
      | inl is ↦ new_node q is
      | inr apart ↦ old_node q apart (rank_other q apart (omega (arith, longer)))
    ];
    possible = λ T table tree k w value. elim (cases_lt k (length vs)) [
      | inl lt ↦ before.possible T table tree k w (sym (same_value k lt) ∙ value)
      | inr past ↦
          let at = before.possible T table tree (length nodes) v there in
          child_possible node.children.items es vs new (view v) reads T at.0 at.1 k w past value
    ];
  }

-- all nodes are read
module _ (names : Names) (root : Children) (nodes : List Node) (d : Data) (vs : List Value)
    (all : IsRead names root nodes d vs) (count : length vs ≡ length nodes) where
  pub read_trie : IsTrie root nodes
  read_trie = record {
    in_order = all.in_order;
    forest = subst (IsForest (step_of root nodes)) count all.forest;
    characters = all.characters;
  }

  pub read_parents : HaveOneParent (step_of root nodes) (length nodes)
  read_parents = one_parent_each (step_of root nodes) (length nodes) (length vs) all.forest
      (λ k lt. all.children k (omega (arith, count)))

  tree_from : (fuel : ℕ) (t : Text) (p : Place) → walk (step_of root nodes) Root t ≡ Some p → rank p ≤ length nodes
      → length nodes ≤ rank p + fuel → (x : Data) → data_at d vs p ≡ Some x → IsTree (table_of root nodes names) t x
  tree_from zero t p leads low far x is =
      let has = all.read p low in
      let same : object has.members ≡ x = let both = sym has.is ∙ is in (cc) in
      subst (IsTree (table_of root nodes names) t) same
      (node_tree root nodes read_trie names t p leads vs _ _ has.members has.node count refl refl
      (λ c k v step there. absurd (omega (
        arith,
        read_trie.forest.higher p c k step,
        read_trie.forest.is_node p c k
            step,
        far,
      ))))
  tree_from (suc fuel) t p leads low far x is =
      let has = all.read p low in
      let same : object has.members ≡ x = let both = sym has.is ∙ is in (cc) in
      subst (IsTree (table_of root nodes names) t) same
      (node_tree root nodes read_trie names t p leads vs _ _ has.members has.node count refl refl
      (λ c k v step there. tree_from fuel (t ++ c ∷ []) (At k) (walk_to (step_of root nodes) t c k Root p leads step)
      (read_trie.forest.is_node p c k step)
      (omega (arith, read_trie.forest.higher p c k step, far)) (view v) (ap (option_map view) there)))

  pub read_tree : IsTree (table_of root nodes names) [] d
  read_tree = tree_from (length nodes) [] Root refl (omega arith) (omega arith) d refl

-- the root of a table has no postings
first_found : (e : String Global × ℕ) (es : Entries) → map.get (postings_of (e ∷ es)) (string_bytes e.0) ≡ Some e.1
first_found e es = map.get-from_entries nat_list_cmp_total (bytes_of (e ∷ es)) (string_bytes e.0)
    ∙ rw (tied_itself nat_list_cmp_total (string_bytes e.0))

pub root_refused : (kids : Children) (es : Entries) (old new : List Value) (d : Data) → ReadsNode kids es old new d
    → (length es ≡ 0 → ⊥) → (T : Table) → IsTable T → IsTree T [] d → ⊥
root_refused kids [] old new d reads more T table tree = more refl
root_refused kids (e ∷ es) old new d reads more T table tree =
    let whole = subst (IsTree T []) reads.is tree in
    let both : Some (object (frequencies (map.entries (postings T []))))
    ≡ Some (object (frequencies (map.entries (postings_of (e ∷ es))))) = sym whole.1 ∙ reads.node.docs_there in
    let docs : object (frequencies (map.entries (postings T [])))
    ≡ object (frequencies (map.entries (postings_of (e ∷ es)))) = cc in
    let same = same_docs (postings T []) (postings_of (e ∷ es)) docs in
    let there : posting T [] (string_bytes e.0) ≡ Some e.1 = ap (λ P. map.get P (string_bytes e.0)) same
    ∙ first_found e es in
    let none = table.bare_root (string_bytes e.0) in
    absurd (cc)
