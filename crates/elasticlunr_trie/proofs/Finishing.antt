-- The trees of nodes, from those of their children.
use Rattle.elasticlunr_trie_nodes.specs.Pairs.{IsStrictlySorted}
use Rattle.elasticlunr_trie_nodes.specs.Names.{Names}
use Rattle.elasticlunr_trie.specs.Children.{Children, child}
use Rattle.elasticlunr_trie_nodes.specs.Trie.{rank, children_at, entries_at, step_of, walk, table_of, IsTrie, named}
use Rattle.std.proofs.Common.{◌≡◌, ◌≢◌, inl, inr, ◌↔◌, ℕ, suc, ◌<◌, ◌≤◌, cond, List, [], ◌∷◌, ◌++◌, length, set, take}
use Rattle.std.proofs.Common.{get_or, Option, Some, None, IsSome, IsTrue, is_some, option_map, option_and_then, codes}
use Rattle.std.proofs.Common.{encode_utf8, refl, sym, ap, subst, ◌∙◌, arith, append-nil, Less, Greater, string_bytes}
use Rattle.std.proofs.Common.{string_cmp, String, Global}
use mathlib.Core.Bool.{false≢true}
use Rattle.std.proofs.lemmas.Bool.{cases_eq, eq-eqb}
use Rattle.std.proofs.Common.{ne_eqb, eqb}
use Rattle.std.proofs.lemmas.Str.{encode_same, encode_ascii}
use Rattle.std.proofs.Common.{le_refl}
use Rattle.std.proofs.lemmas.Cmp.{nat_list_cmp_total, tied_itself}
use Rattle.std.proofs.lemmas.List.{take-append-drop, get_or-take}
use Rattle.std.proofs.Common.{length-take, drop}
use Rattle.elasticlunr_trie_nodes.proofs.Found.{value_absent}
use Rattle.std.specs.Ordering.{nat_cmp, match_ordering, ordering_reverse}
use Rattle.std.specs.Cmp.Lexicographic.{slice_cmp}
use Rattle.std.specs.List.{slice_get, AllByRecursion}
use Rattle.std.specs.List.Sorted.{IsStrictlySortedBy}
use Rattle.std.specs.Map.{keys_of}
use Rattle.serde_json.specs.Data.{Data, object, number, unsigned, Members, no_members, member, put}
use Rattle.serde_json.specs.Find.{get_member}
use Rattle.serde_json.specs.View.{view, members_view}
use Rattle.serde_json.proofs.Views.{get_member-put, get_member-put_other, Entry}
use Rattle.serde_json.specs.declared.value.Value.{Value}
use Rattle.std.specs.FinMap as map
use Rattle.elasticlunr_error.specs.Text.{Text}
use Rattle.elasticlunr_trie_nodes.specs.Table.{knows, postings_of, Entries}
use Rattle.elasticlunr_trie.specs.Tree.{IsTree, AreParts, IsBelow, HasKeysInOrder, frequencies}
use Rattle.elasticlunr_trie.specs.Finished.{value_at, HasChildren, IsNode}
use Rattle.elasticlunr_json.proofs.Sorted.{len_seen}
use Rattle.elasticlunr_trie_nodes.proofs.Places.{get_set, get_set_other, get_within}
use Rattle.elasticlunr_json.proofs.Texts.{same_or_not}
use Rattle.elasticlunr_trie_nodes.proofs.Forest.{walk_push, walk_to, last_step}
use Rattle.elasticlunr_trie_nodes.proofs.Tables.{knows_walk, postings_walk}
use Rattle.elasticlunr_trie_nodes.specs.declared.nodes.Node.{Node}
use Rattle.elasticlunr_trie_nodes.specs.declared.nodes.Place.{Place}
use Rattle.elasticlunr_trie_nodes.specs.declared.nodes.Place.TheVariants.{Root, At}

pub some_of : {A : Type 0} (o : Option A) → IsSome o → (x : A) × (o ≡ Some x)
some_of None h = absurd (false≢true h)
some_of (Some x) h = (x, refl)

-- ---- keys

pub letters_same : (c d : ℕ) → encode_utf8 c ≡ encode_utf8 d → c ≡ d
letters_same c d e = (encode_same c d [] [] (ap (λ t. t ++ []) e)).0

-- a child that is put after the others
pub child_push : (es : Children) (c k : ℕ) → child es c ≡ None → child (es ++ (c, k) ∷ []) c ≡ Some k
child_push [] c k none = ap (λ b. cond b (Some k) None) (eq-eqb c c refl)
child_push ((d, j) ∷ es) c k none = elim (cases_eq d c) [
  | inl same ↦ let found : child ((d, j) ∷ es) c ≡ Some j = ap (λ b. cond b (Some j) (child es c)) (eq-eqb d c same) in
      absurd (cc)
  | inr apart ↦
      let skip = ne_eqb d c apart in
      ap (λ b. cond b (Some j) (child (es ++ (c, k) ∷ []) c)) skip
      ∙ child_push es c k (sym (ap (λ b. cond b (Some j) (child es c)) skip) ∙ none)
]

-- a child found among the first is found among all
pub child_more : (xs ys : Children) (c k : ℕ) → child xs c ≡ Some k → child (xs ++ ys) c ≡ Some k
child_more [] ys c k e = absurd (cc)
child_more ((d, j) ∷ xs) ys c k e = elim (cases_eq d c) [
  | inl same ↦
      let b = eq-eqb d c same in
      ap (λ x. cond x (Some j) (child (xs ++ ys) c)) b ∙ sym (ap (λ x. cond x (Some j) (child xs c)) b) ∙ e
  | inr apart ↦
      let b = ne_eqb d c apart in
      ap (λ x. cond x (Some j) (child (xs ++ ys) c)) b
      ∙ child_more xs ys c k (sym (ap (λ x. cond x (Some j) (child xs c)) b) ∙ e)
]

pub child_within : (es : Children) (i c k : ℕ) → child (take i es) c ≡ Some k → child es c ≡ Some k
child_within es i c k e = subst (λ l. child l c ≡ Some k) (take-append-drop i es)
    (child_more (take i es) (drop i es) c k e)

-- no child before the place i has its character
pub child_before : (es : Children) → IsStrictlySorted es → (i : ℕ) → i < length es
    → child (take i es) (get_or es i (0, 0)).0 ≡ None
child_before es sorted i lt = value_absent (take i es) (get_or es i (0, 0)).0 (λ j below same.
    let short : j < i = omega (arith, length-take i es) in
    let letter = ap (λ (e : ℕ × ℕ). e.0) (get_or-take i es j (0, 0) short) in
    let rising = sorted j i short lt in
    omega arith)

pub child_push_other : (es : Children) (c k d : ℕ) → d ≢ c → child (es ++ (c, k) ∷ []) d ≡ child es d
child_push_other [] c k d apart = ap (λ b. cond b (Some k) None) (ne_eqb c d (λ e. apart (sym e)))
child_push_other ((x, j) ∷ es) c k d apart = ap (cond (eqb x d) (Some j)) (child_push_other es c k d apart)

-- one more child is put
pub one_more_child : (es : Children) (vs : List Value) (ms : Members) (c k : ℕ) (d : Data) → HasChildren es vs ms
    → child es c ≡ None → value_at vs k ≡ Some d → HasChildren (es ++ (c, k) ∷ []) vs (put (encode_utf8 c) d ms)
one_more_child es vs ms c k d has none value = record {
  present = λ x. elim (cases_eq x c) [
    | inl same ↦ subst (λ y. get_member (encode_utf8 y) (put (encode_utf8 c) d ms)
        ≡ option_and_then (value_at vs) (child (es ++ (c, k) ∷ []) y)) (sym same)
        (get_member-put (encode_utf8 c) d ms ∙ sym (ap (option_and_then (value_at vs)) (child_push es c k none)
        ∙ value))
    | inr apart ↦ get_member-put_other (encode_utf8 x) (encode_utf8 c) d ms (λ e. apart (letters_same x c e))
        ∙ has.present x ∙ ap (option_and_then (value_at vs)) (sym (child_push_other es c k x apart))
  ];
  only = λ q found. elim (same_or_not q (encode_utf8 c)) [
    | inl same ↦ (c, ap is_some (child_push es c k none), same)
    | inr apart ↦
        let before = has.only q (ap is_some (sym (get_member-put_other q (encode_utf8 c) d ms apart)) ∙ found) in
        (before.0, later before.0 before.1, before.2)
  ];
}
  where
    later : (x : ℕ) → IsSome (child es x) → IsSome (child (es ++ (c, k) ∷ []) x)
    later x h = elim (cases_eq x c) [
      | inl same ↦ absurd (false≢true (sym (ap is_some (ap (child es) same ∙ none)) ∙ h))
      | inr apart ↦ ap is_some (child_push_other es c k x apart) ∙ h
    ]

pub no_children_yet : (vs : List Value) → HasChildren [] vs no_members
no_children_yet vs = record { present = λ c. refl; only = λ q found. absurd (false≢true found) }

-- ---- the tree of a node

-- keys that ascend in a map
pub ordered_members : (es : List Entry) → IsStrictlySortedBy string_cmp (keys_of es) → HasKeysInOrder (members_view es)
unfolding IsStrictlySortedBy
ordered_members [] h = tt
ordered_members (e ∷ es) h = (below e es h.0, ordered_members es h.1)
  where
    below : (e : Entry) (es : List Entry) → AllByRecursion (λ y. string_cmp e.0 y ≡ Less) (keys_of es)
        → IsBelow (string_bytes e.0) (members_view es)
    below e [] h = tt
    below e (f ∷ es) h = (h.0, below e es h.1)

-- each member of the second is found in the first
abbrev AllFound : Members → Members → Type 0
AllFound whole no_members = Unit {0}
AllFound whole (member k d ms) = (get_member k whole ≡ Some d) × AllFound whole ms

skip_first : (k : List ℕ) (d : Data) (ms part : Members) → IsBelow k part → AllFound ms part
    → AllFound (member k d ms) part
skip_first k d ms no_members below found = tt
skip_first k d ms (member l e part) below found =
    let above : slice_cmp nat_cmp l k ≡ Greater = nat_list_cmp_total.antisymm l k ∙ ap ordering_reverse below.0 in (
      ap (λ o. match_ordering o (get_member l ms) (Some d) (get_member l ms)) above
          ∙ found.0,
      skip_first k d ms part below.1 found.1,
    )

all_found : (ms : Members) → HasKeysInOrder ms → AllFound ms ms
all_found no_members h = tt
all_found (member k d ms) h = (
  ap (λ o. match_ordering o (get_member k ms) (Some d) (get_member k ms)) (tied_itself nat_list_cmp_total k),
  skip_first k d ms ms h.0 (all_found ms h.1),
)

-- The values of the nodes from i on, but for those whose parents are done, are trees.
abbrev pub IsFinishedFrom : Names → Children → List Node → List Value → ℕ → Type 0
IsFinishedFrom names root nodes vs i =
    (t : Text) (p : Place) (c k : ℕ) (v : Value) → walk (step_of root nodes) Root t ≡ Some p → rank p ≤ i
    → step_of root nodes p c ≡ Some k → i ≤ k → slice_get vs k ≡ Some v
    → IsTree (table_of root nodes names) (t ++ c ∷ []) (view v)

module _ (root : Children) (nodes : List Node) (trie : IsTrie root nodes) (names : Names) (t : Text) (p : Place)
    (leads : walk (step_of root nodes) Root t ≡ Some p) (vs : List Value) (docs : Data) (df : ℕ) (ms : Members)
    (node : IsNode (children_at root nodes p) vs docs df ms)
    (enough : length vs ≡ length nodes) (docs_are : docs
    ≡ object (frequencies (map.entries (named names (entries_at root nodes p))))) (df_is : df
    ≡ map.len (named names (entries_at root nodes p)))
    (trees : (c k : ℕ) (v : Value) → step_of root nodes p c ≡ Some k → slice_get vs k ≡ Some v
    → IsTree (table_of root nodes names) (t ++ c ∷ []) (view v)) where
  there : (c k : ℕ) → step_of root nodes p c ≡ Some k → (v : Value) × (slice_get vs k ≡ Some v)
  there c k e = get_within vs k (omega (arith, trie.forest.is_node p c k e, enough))

  child_value : (c k : ℕ) (d : Data) → step_of root nodes p c ≡ Some k → get_member (encode_utf8 c) ms ≡ Some d
      → IsTree (table_of root nodes names) (t ++ c ∷ []) d
  child_value c k d e found =
      let val = there c k e in
      let is : get_member (encode_utf8 c) ms ≡ Some (view val.0) = node.present c ∙ ap (option_and_then (value_at vs)) e
      ∙ ap (option_map view) val.1 in
      let same : view val.0 ≡ d = (cc) in
      subst (IsTree (table_of root nodes names) (t ++ c ∷ [])) same (trees c k val.0 e val.1)

  parts : (part : Members) → AllFound ms part → AreParts (table_of root nodes names) t part
  parts no_members found = tt
  parts (member k d part) found = (
    elim (node.only k (ap is_some found.0)) [
      | inl docs_key ↦ inl docs_key
      | inr (inl df_key) ↦ inr (inl df_key)
      | inr (inr letter) ↦
          let kid = some_of (child (children_at root nodes p) letter.0) letter.1 in
          inr (inr (
            letter.0,
            letter.2,
            child_value letter.0 kid.0 d kid.1 (ap (λ x. get_member x ms) (sym letter.2)
                ∙ found.0),
          ))
    ],
    parts part found.1,
  )

  same_known : (c : ℕ) → knows (table_of root nodes names) (t ++ c ∷ []) ≡ is_some (get_member (encode_utf8 c) ms)
  same_known c =
      knows_walk root nodes trie names (t ++ c ∷ [])
      ∙ ap is_some (walk_push (step_of root nodes) t Root c
      ∙ ap (option_and_then (last_step (step_of root nodes) c)) leads)
      ∙ by (step_of root nodes p c) refl ∙ sym (ap is_some (node.present c))
    where
      by : (o : Option ℕ) → step_of root nodes p c ≡ o → is_some (option_map At (step_of root nodes p c))
          ≡ is_some (option_and_then (value_at vs) (step_of root nodes p c))
      by None e = ap (λ x. is_some (option_map At x)) e ∙ sym (ap (λ x. is_some (option_and_then (value_at vs) x)) e)
      by (Some k) e = ap (λ x. is_some (option_map At x)) e ∙ sym (ap (λ x. is_some (option_and_then (value_at vs) x)) e
          ∙ ap (λ x. is_some (option_map view x)) (there c k e).1)

  known : (c : ℕ) → IsTrue (knows (table_of root nodes names) (t ++ c ∷ [])) ↔ IsSome (get_member (encode_utf8 c) ms)
  known c = (λ h. sym (same_known c) ∙ h, λ h. same_known c ∙ h)

  pub node_tree : IsTree (table_of root nodes names) t (object ms)
  node_tree = (
    node.order,
    node.docs_there ∙ ap Some (docs_are ∙ ap (λ P. object (frequencies (map.entries P)))
        (sym (postings_walk root nodes trie names t p leads))),
    node.df_there ∙ ap (λ n. Some (number (unsigned n)))
        (df_is ∙ ap map.len (sym (postings_walk root nodes trie names t p leads))),
    known,
    parts ms (all_found ms node.order),
  )

-- the next node is done
pub finished_step : (root : Children) (nodes : List Node) (trie : IsTrie root nodes) (names : Names)
    (vs vs2 : List Value) (i : ℕ) (v : Value) → IsFinishedFrom names root nodes vs (suc i) → i < length vs2
    → length vs ≡ length nodes
    → ((k : ℕ) → ((c : ℕ) → step_of root nodes (At i) c ≢ Some k) → slice_get vs2 k ≡ slice_get vs k)
    → ((t : Text) → walk (step_of root nodes) Root t ≡ Some (At i)
    → ((c k : ℕ) (w : Value) → step_of root nodes (At i) c ≡ Some k → slice_get vs k ≡ Some w
    → IsTree (table_of root nodes names) (t ++ c ∷ []) (view w)) → IsTree (table_of root nodes names) t (view v))
    → IsFinishedFrom names root nodes (set vs2 i v) i
finished_step root nodes trie names vs vs2 i v done in_range enough kept made t p c k w leads low step up value =
    elim (cases_eq k i) [
      | inl here ↦
          let path = walk_to (step_of root nodes) t c k Root p leads step ∙ ap (λ x. Some (At x)) here in
          let is : Some v ≡ Some w = sym (get_set vs2 i v in_range) ∙ ap (slice_get (set vs2 i v)) (sym here) ∙ value in
          let same : v ≡ w = (cc) in
          subst (λ x. IsTree (table_of root nodes names) (t ++ c ∷ []) (view x)) same
          (made (t ++ c ∷ []) path (λ d j u down there. done (t ++ c ∷ []) (At i) d j u path (le_refl (suc i)) down
          (trie.forest.higher (At i) d j down) there))
      | inr later ↦
          let is : slice_get vs k ≡ Some w = sym (kept k (λ d down. apart p c k d low step down))
          ∙ sym (get_set_other vs2 k i v later) ∙ value in
          done t p c k w leads (omega arith) step (omega arith) is
    ]
  where
    apart : (p : Place) (c k d : ℕ) → rank p ≤ i → step_of root nodes p c ≡ Some k → step_of root nodes (At i) d
        ≡ Some k → ⊥
    apart p c k d low step down =
        let same = trie.forest.one_parent p (At i) c d k step down in
        let r : rank p ≡ suc i = ap rank same in
        absurd (omega arith)

-- no character is written as a longer key
pub not_letter : (c k : ℕ) (x : ℕ) (rest : List ℕ) → k < 128 → k ∷ x ∷ rest ≡ encode_utf8 c → ⊥
not_letter c k x rest low e =
    let first : encode_utf8 k ≡ k ∷ [] = encode_ascii k low in
    let split : encode_utf8 c ++ [] ≡ encode_utf8 k ++ (x ∷ rest) = append-nil (encode_utf8 c) ∙ sym e
    ∙ ap (λ t. t ++ (x ∷ rest)) (sym first) in
    let tail = (encode_same c k [] (x ∷ rest) split).1 in
    absurd (cc)

-- `docs` and `df` beside the children
pub made_node : (children : Children) (vs : List Value) (docs : Data) (df : ℕ) (ms : Members)
    → HasChildren children vs ms → HasKeysInOrder
    (put (codes "df") (number (unsigned df)) (put (codes "docs") docs ms))
    → IsNode children vs docs df (put (codes "df") (number (unsigned df)) (put (codes "docs") docs ms))
made_node children vs docs df ms has order =
    let inner = put (codes "docs") docs ms in
    record {
      order = order;
      docs_there = get_member-put_other (codes "docs") (codes "df") (number (unsigned df)) inner (λ e. cc)
          ∙ get_member-put (codes "docs") docs ms;
      df_there = get_member-put (codes "df") (number (unsigned df)) inner;
      present = λ c. get_member-put_other (encode_utf8 c) (codes "df") (number (unsigned df)) inner
          (λ e. not_letter c 100 102 [] (omega arith) (sym e))
          ∙ get_member-put_other (encode_utf8 c) (codes "docs") docs ms
          (λ e. not_letter c 100 111 (99 ∷ 115 ∷ []) (omega arith) (sym e)) ∙ has.present c;
      only = λ q found. elim (same_or_not q (codes "docs")) [
        | inl same ↦ inl same
        | inr no_docs ↦ elim (same_or_not q (codes "df")) [
          | inl same ↦ inr (inl same)
          | inr no_df ↦ inr (inr (has.only q (ap is_some
              (sym (get_member-put_other q (codes "df") (number (unsigned df)) inner no_df
              ∙ get_member-put_other q (codes "docs") docs ms no_docs)) ∙ found)))
        ]
      ];
    }

-- before the last node there is nothing to show
pub no_nodes_yet : (names : Names) (root : Children) (nodes : List Node) (vs : List Value) → IsTrie root nodes
    → IsFinishedFrom names root nodes vs (length nodes)
no_nodes_yet names root nodes vs trie t p c k v leads low step up value =
    absurd (omega (arith, trie.forest.is_node p c k step))

-- how many postings there are
pub len_postings : (es : Entries) → IsStrictlySortedBy string_cmp (keys_of es) → map.len (postings_of es) ≡ length es
len_postings es sorted = len_seen (λ n. n) es sorted

pub none_sorted : IsStrictlySortedBy string_cmp (keys_of {K = String Global} {X = ℕ} [])
unfolding IsStrictlySortedBy
none_sorted = tt
