-- The members of the tries, in the order of their names, are those that are put in one after the other.
use Rattle.std.proofs.Common.{◌≡◌, inl, inr, List, [], ◌∷◌, length, arith, Bool, true, false, cond, not, ◌&&◌, ◌||◌}
use Rattle.std.proofs.Common.{true≢false, Option, Some, None, option_map, map, String, Global, string_bytes, bytes_eq}
use Rattle.std.proofs.Common.{refl, sym, ap, subst, ◌∙◌, Less, Equal, Greater, Ordering}
use Rattle.std.proofs.lemmas.Slice.Eq.{bytes_eq-Decides}
use Rattle.std.specs.Borrow.{Bor}
use Rattle.std.specs.List.{zip, All, AllByRecursion}
use Rattle.std.proofs.lemmas.List.Elements.{All-cons, All-nil}
use Rattle.std.specs.List.Sorted.{IsStrictlySortedBy}
use Rattle.std.specs.Map.{keys_of, lookup}
use Rattle.std.specs.BTreeMap.{is_at}
use Rattle.std.specs.Ordering.{match_ordering, is_eq}
use Rattle.elasticlunr_error.specs.Text.{Bytes, text_cmp}
use Rattle.elasticlunr_trie.specs.Table.{Table, IsTable}
use Rattle.elasticlunr_trie.specs.Tree.{IsTrieValue, IsBelow, HasKeysInOrder}
use Rattle.serde_json.specs.Data.{Data, Members, no_members, member, put}
use Rattle.serde_json.specs.Find.{get_member}
use Rattle.serde_json.proofs.Views.{get_member-put, get_member-put_other}
use Rattle.elasticlunr_commands.specs.Fields.{has_name, all_differ}
use Rattle.elasticlunr_print.specs.Printed.{members_after, AreTrieValues, no_tries, trie}
use Rattle.elasticlunr_print.specs.Sorted.{last_under, AreMembersOf}
use Rattle.elasticlunr_json.proofs.Texts.{same_or_not}
use Rattle.elasticlunr_trie.proofs.OneValue.{same_by_get}
use Rattle.elasticlunr_print.proofs.Members.{order_put}

abbrev pub Entries : Type 0
Entries = List (Bor Bytes × Bor Table)

-- entries in order give members in order
below_all : (k : Bytes) (es : Entries) (ms : Members) → AllByRecursion (λ l. text_cmp k l.now ≡ Less) (keys_of es)
    → AreMembersOf es ms → IsBelow k ms
below_all k [] no_members h are = tt
below_all k [] (member l d ms) h are = absurd are
below_all k (e ∷ es) no_members h are = absurd are
below_all k (e ∷ es) (member l d ms) h are =
    (subst (λ q. text_cmp k q ≡ Less) (sym are.0) h.0, below_all k es ms h.1 are.3)

in_order : (es : Entries) (ms : Members) → IsStrictlySortedBy (λ k l. text_cmp k.now l.now) (keys_of es)
    → AreMembersOf es ms → HasKeysInOrder ms
unfolding IsStrictlySortedBy
in_order [] no_members h are = tt
in_order [] (member l d ms) h are = absurd are
in_order (e ∷ es) no_members h are = absurd are
in_order (e ∷ es) (member l d ms) h are = (
  subst (λ q. IsBelow q ms) (sym are.0) (below_all e.0.now es ms h.0 are.3),
  in_order es ms h.1 are.3,
)

-- nothing is found where there is no table, and its trie value where there is one
abbrev Finds : Option Table → Option Data → Type 0
Finds None found = found ≡ None
Finds (Some table) found = (d : Data) × (found ≡ Some d) × IsTrieValue table d × IsTable table

found_at : (o : Ordering) (table : Bor Table) (d : Data) (rest : Option (Bor Table)) (later : Option Data)
    → IsTrieValue table.now d → IsTable table.now → Finds (option_map (λ t. t.now) rest) later
    → Finds (option_map (λ t. t.now) (cond (is_eq o) (Some table) rest)) (match_ordering o later (Some d) later)
found_at Less table d rest later is whole more = more
found_at Equal table d rest later is whole more = (d, refl, is, whole)
found_at Greater table d rest later is whole more = more

finds : (q : Bytes) (es : Entries) (ms : Members) → AreMembersOf es ms
    → Finds (option_map (λ t. t.now) (lookup (is_at (λ k. text_cmp q k.now)) es)) (get_member q ms)
finds q [] no_members are = refl
finds q [] (member l d ms) are = absurd are
finds q (e ∷ es) no_members are = absurd are
finds q (e ∷ es) (member l d ms) are =
    subst (λ k. Finds (option_map (λ t. t.now) (lookup (is_at (λ x. text_cmp q x.now)) (e ∷ es)))
    (get_member q (member k d ms))) (sym are.0)
    (found_at (text_cmp q e.0.now) e.1 d (lookup (is_at (λ k. text_cmp q k.now)) es) (get_member q ms) are.1 are.2
    (finds q es ms are.3))

-- pairs under other names change nothing
last_skips : (q : Bytes) (given : Option Table) (names : List Bytes) (tables : List Table) → has_name q names ≡ false
    → last_under q given (zip names tables) ≡ given
last_skips q given [] tables none = refl
last_skips q given (name ∷ names) [] none = refl
last_skips q given (name ∷ names) (table ∷ tables) none =
    let parts = both_false (bytes_eq name q) (has_name q names) none in
    ap (λ b. last_under q (cond b (Some table) given) (zip names tables)) parts.0
    ∙ last_skips q given names tables parts.1
  where
    both_false : (a b : Bool) → (a || b) ≡ false → (a ≡ false) × (b ≡ false)
    both_false true b e = absurd (true≢false e)
    both_false false b e = (refl, e)

-- each of these pairs is found among the members
abbrev AreAt : Members → List (Bytes × Data) → Type 0
AreAt ms [] = Unit {0}
AreAt ms (pair ∷ pairs) = (get_member pair.0 ms ≡ Some pair.1) × AreAt ms pairs

module _ (ms : Members) where
  -- where names differ, each has one table, whose trie value is found
  values_at : (names : List Bytes) (tables : List Table) → length tables ≡ length names → all_differ names ≡ true
      → ((q : Bytes) → has_name q names ≡ true → Finds (last_under q None (zip names tables)) (get_member q ms))
      → (values : List Data) × AreTrieValues tables values × AreAt ms (zip names values) × All IsTable tables
  values_at [] [] many differ found = ([], no_tries, tt, All-nil IsTable)
  values_at [] (table ∷ tables) many differ found = absurd (omega arith)
  values_at (name ∷ names) [] many differ found = absurd (omega arith)
  values_at (name ∷ names) (table ∷ tables) many differ found =
      let parts = both_true (has_name name names) (all_differ names) differ in
      let itself : bytes_eq name name ≡ true = (bytes_eq-Decides name name).1 refl in
      let here : Finds (Some table) (get_member name ms) = subst (λ o. Finds o (get_member name ms))
      (ap (λ b. last_under name (cond b (Some table) None) (zip names tables)) itself
      ∙ last_skips name (Some table) names tables parts.0)
      (found name (ap (λ b. b || has_name name names) itself)) in
      let rest = values_at names tables (omega arith) parts.1
      (λ q there. elim (bytes_eq name q) as (λ b. bytes_eq name q ≡ b
      → Finds (last_under q None (zip names tables)) (get_member q ms)) [
        | true ↦ λ e. absurd (true≢false (sym there ∙ ap (λ x. has_name x names) (sym ((bytes_eq-Decides name q).0 e))
            ∙ parts.0))
        | false ↦ λ e. subst (λ b. Finds (last_under q (cond b (Some table) None) (zip names tables)) (get_member q ms))
            e (found q (either (bytes_eq name q) (has_name q names) there))
      ] refl) in
      (here.0 ∷ rest.0, trie here.2 rest.1, (here.1, rest.2), All-cons IsTable table tables here.3 rest.3)
    where
      both_true : (a b : Bool) → (not a && b) ≡ true → (a ≡ false) × (b ≡ true)
      both_true true b e = absurd (true≢false (sym e))
      both_true false b e = (refl, e)

      either : (a b : Bool) → b ≡ true → (a || b) ≡ true
      either true b e = refl
      either false b e = e

  after_one : (q : Bytes) (pair : Bytes × Data) (before : Members) → get_member pair.0 ms ≡ Some pair.1
      → get_member q before ≡ get_member q ms → get_member q (put pair.0 pair.1 before) ≡ get_member q ms
  after_one q pair before is same = elim (same_or_not q pair.0) [
    | inl e ↦ ap (λ k. get_member k (put pair.0 pair.1 before)) e ∙ get_member-put pair.0 pair.1 before ∙ sym is
        ∙ ap (λ k. get_member k ms) (sym e)
    | inr apart ↦ get_member-put_other q pair.0 pair.1 before apart ∙ same
  ]

  -- what agrees with the members goes on to do so
  after_all : (q : Bytes) (pairs : List (Bytes × Data)) (before : Members) → AreAt ms pairs → get_member q before
      ≡ get_member q ms → get_member q (members_after before pairs) ≡ get_member q ms
  after_all q [] before are same = same
  after_all q (pair ∷ pairs) before are same = after_all q pairs (put pair.0 pair.1 before) are.1
      (after_one q pair before are.0 same)

  -- what was put under a name agrees with the members there
  after_name : (q : Bytes) (names : List Bytes) (values : List Data) (before : Members) → length values ≡ length names
      → has_name q names ≡ true → AreAt ms (zip names values) → get_member q (members_after before (zip names values))
      ≡ get_member q ms
  after_name q [] values before many there are = absurd (true≢false (sym there))
  after_name q (name ∷ names) [] before many there are = absurd (omega arith)
  after_name q (name ∷ names) (value ∷ values) before many there are = elim (bytes_eq name q) as (λ b. bytes_eq name q
      ≡ b → get_member q (members_after (put name value before) (zip names values)) ≡ get_member q ms) [
        | true ↦ λ e.
            let is : name ≡ q = (bytes_eq-Decides name q).0 e in
            after_all q (zip names values) (put name value before) are.1
            (ap (λ k. get_member k (put name value before)) (sym is) ∙ get_member-put name value before ∙ sym are.0
            ∙ ap (λ k. get_member k ms) is)
        | false ↦ λ e. after_name q names values (put name value before) (omega arith)
            (ap (λ b. b || has_name q names) (sym e) ∙ there) are.1
      ] refl

  order_after : (pairs : List (Bytes × Data)) (before : Members) → HasKeysInOrder before
      → HasKeysInOrder (members_after before pairs)
  order_after [] before order = order
  order_after (pair ∷ pairs) before order = order_after pairs (put pair.0 pair.1 before)
      (order_put pair.0 pair.1 before order)

pub as_many : (tables : List Table) (values : List Data) → AreTrieValues tables values → length values ≡ length tables
as_many [] [] are = refl
as_many [] (value ∷ values) are = elim are [ ]
as_many (table ∷ tables) [] are = elim are [ ]
as_many (table ∷ tables) (value ∷ values) (trie is are) = let more = as_many tables values are in omega arith

-- the members of the tries by their names are those of the tries in the order of the fields
pub members_by_name : (names : List Bytes) (tables : List Table) (es : Entries) (ms : Members) → length tables
    ≡ length names → all_differ names ≡ true
    → ((q : Bytes) → option_map (λ t. t.now) (lookup (is_at (λ k. text_cmp q k.now)) es)
    ≡ last_under q None (zip names tables))
    → IsStrictlySortedBy (λ k l. text_cmp k.now l.now) (keys_of es) → AreMembersOf es ms
    → (values : List Data) × AreTrieValues tables values × (ms ≡ members_after no_members (zip names values))
    × All IsTable tables
members_by_name names tables es ms many differ by_name sorted are =
    let found = λ (q : Bytes). subst (λ o. Finds o (get_member q ms)) (by_name q) (finds q es ms are) in
    let values = values_at ms names tables many differ (λ q there. found q) in
    let length_values : length values.0 ≡ length names = as_many tables values.0 values.1 ∙ many in (
      values.0,
      values.1,
      same_by_get ms (members_after no_members (zip names values.0)) (in_order es ms sorted are)
          (order_after ms (zip names values.0) no_members tt)
          (λ q. sym (elim (has_name q names) as (λ b. has_name q names ≡ b
          → get_member q (members_after no_members (zip names values.0)) ≡ get_member q ms) [
            | true ↦ λ e. after_name ms q names values.0 no_members length_values e values.2
            | false ↦ λ e. after_all ms q (zip names values.0) no_members values.2
                (sym (subst (λ o. Finds o (get_member q ms)) (last_skips q None names tables e) (found q)))
          ] refl)),
      values.3,
    )

-- one more table is put under its name
pub put_under : (q key name : Bytes) (table : Bor Table) (old new : Option (Bor Table)) (names : List Bytes)
    (tables : List Table) → key ≡ name → new ≡ cond (bytes_eq key q) (Some table) old
    → last_under q (option_map (λ t. t.now) new) (zip names tables)
    ≡ last_under q (option_map (λ t. t.now) old) (zip (name ∷ names) (table.now ∷ tables))
put_under q key name table old new names tables is e =
    ap (λ o. last_under q o (zip names tables)) (ap (option_map (λ t. t.now)) e ∙ within (bytes_eq key q))
    ∙ ap (λ k. last_under q (cond (bytes_eq k q) (Some table.now) (option_map (λ t. t.now) old))
    (zip names tables)) is
  where
    within : (b : Bool) → option_map (λ t. t.now) (cond b (Some table) old)
        ≡ cond b (Some table.now) (option_map (λ t. t.now) old)
    within true = refl
    within false = refl

-- with no name left, what was found is what there is
pub nothing_left : (q : Bytes) (given : Option Table) (names : List (String Global)) (tables : List Table)
    → length names ≡ 0 → last_under q given (zip (map string_bytes names) tables) ≡ given
nothing_left q given [] tables none = refl
nothing_left q given (name ∷ names) tables none = absurd (omega arith)
