-- A value with natural numbers alone, and the parts of an index in it.
use Rattle.std.proofs.Common.{◌≡◌, List, [], ◌∷◌, ◌++◌, Option, None, Some}
use Rattle.std.proofs.Common.{Ordering, Less, Equal, Greater, codes, refl, sym, ap, subst}
use Rattle.std.specs.Prelude.{ℕ, IsSomeAnd}
use Rattle.std.specs.List.{AllZip}
use Rattle.std.specs.Ordering.{match_ordering, nat_cmp}
use Rattle.std.specs.Cmp.Lexicographic.{slice_cmp}
use Rattle.serde_json.specs.Data.{Data, null, boolean, number, unsigned, negative, float, string, array, object, Items}
use Rattle.serde_json.specs.Data.{no_items, item, Members, no_members, member, put}
use Rattle.serde_json.specs.Find.{get, get_member}
use Rattle.serde_json.specs.View.{view, items_view}
use Rattle.serde_json.specs.declared.value.Value.{Value}
use Rattle.elasticlunr_text.specs.Text.{Bytes}
use Rattle.elasticlunr_store.specs.Contents.{Contents, IsConsistent}
use Rattle.elasticlunr_trie.specs.Table.{Table, IsTable}
use Rattle.elasticlunr_trie.specs.Tree.{IsTrieValue}
use Rattle.elasticlunr.specs.History.{Commands}
use Rattle.elasticlunr.specs.Printed.{IsPrintOf}
use Rattle.elasticlunr.specs.Standing.{Plan}
use Rattle.elasticlunr_print.proofs.Plain.{IsPlain, ArePlainItems, ArePlain}
use Rattle.elasticlunr_print.proofs.PlainValues.{value_plain}
use Rattle.elasticlunr.specs.Shape.{HasParts, HasTrie, HasTries}
use Rattle.elasticlunr_search.specs.Fields.{HasWholeTrie, HasWholeTries, IsIndexOf}
use Rattle.elasticlunr_search.specs.Readers.{ReadsAs}
use Rattle.elasticlunr_search.specs.Whole.{with_ones, items_with_ones, members_with_ones}
use Rattle.elasticlunr_search.proofs.FieldTries.{each_weaker}
use Rattle.elasticlunr_search.proofs.NaturalTries.{trie_same}

-- a plain value stays as it is
mutual
  pub with_ones_same : (d : Data) → IsPlain d → with_ones d ≡ d
  with_ones_same null plain = refl
  with_ones_same (boolean b) plain = refl
  with_ones_same (number (unsigned n)) plain = refl
  with_ones_same (number (negative z)) plain = absurd plain
  with_ones_same (number (float x)) plain = absurd plain
  with_ones_same (string s) plain = refl
  with_ones_same (array ds) plain = ap array (items_same ds plain)
  with_ones_same (object ms) plain = ap object (members_same ms plain.1)

  items_same : (ds : Items) → ArePlainItems ds → items_with_ones ds ≡ ds
  items_same no_items plain = refl
  items_same (item d ds) plain = λ i. item (with_ones_same d plain.0 i) (items_same ds plain.1 i)

  members_same : (ms : Members) → ArePlain ms → members_with_ones ms ≡ ms
  members_same no_members plain = refl
  members_same (member k d ms) plain = λ i. member k (with_ones_same d plain.0 i) (members_same ms plain.1 i)

-- what stands in a plain value is plain
plain_member : (k : List ℕ) (ms : Members) (d : Data) → get_member k ms ≡ Some d → ArePlain ms → IsPlain d
plain_member k no_members d at plain = absurd (cc (at))
plain_member k (member l e ms) d at plain =
    by (slice_cmp nat_cmp k l) at (λ is. plain_member k ms d is plain.1)
  where
    by : (o : Ordering) → match_ordering o (get_member k ms) (Some e) (get_member k ms) ≡ Some d
        → (get_member k ms ≡ Some d → IsPlain d) → IsPlain d
    by Less is later = later is
    by Equal is later = let same : e ≡ d = cc (is) in subst IsPlain same plain.0
    by Greater is later = later is

plain_at : (k : List ℕ) (v d : Data) → get k v ≡ Some d → IsPlain v → IsPlain d
plain_at k null d at plain = absurd (cc (at))
plain_at k (boolean b) d at plain = absurd (cc (at))
plain_at k (number n) d at plain = absurd (cc (at))
plain_at k (string s) d at plain = absurd (cc (at))
plain_at k (array ds) d at plain = absurd (cc (at))
plain_at k (object ms) d at plain = plain_member k ms d at plain.1

-- one item more
pub items_more : (xs vs : List Value) (x v : Value) → items_view xs ≡ items_with_ones (items_view vs) → view x
    ≡ with_ones (view v)
    → items_view (xs ++ x ∷ []) ≡ items_with_ones (items_view (vs ++ v ∷ []))
items_more [] [] x v so_far here = ap (λ d. item d no_items) here
items_more [] (w ∷ vs) x v so_far here = absurd (cc (so_far))
items_more (y ∷ xs) [] x v so_far here = absurd (cc (so_far))
items_more (y ∷ xs) (w ∷ vs) x v so_far here =
    let first : view y ≡ with_ones (view w) = cc (so_far) in
    let rest : items_view xs ≡ items_with_ones (items_view vs) = cc (so_far) in
    let more = items_more xs vs x v rest here in
    λ i. item (first i) (more i)

-- one member more
pub put_with_ones : (k : List ℕ) (d : Data) (ms : Members) → put k (with_ones d) (members_with_ones ms)
    ≡ members_with_ones (put k d ms)
put_with_ones k d no_members = refl
put_with_ones k d (member l e ms) = by (slice_cmp nat_cmp k l) (put_with_ones k d ms) where
  by : (o : Ordering) → put k (with_ones d) (members_with_ones ms) ≡ members_with_ones (put k d ms)
      → match_ordering o (member k (with_ones d) (member l (with_ones e) (members_with_ones ms)))
      (member l (with_ones d) (members_with_ones ms))
      (member l (with_ones e) (put k (with_ones d) (members_with_ones ms)))
      ≡ members_with_ones (match_ordering o (member k d (member l e ms)) (member l d ms) (member l e (put k d ms)))
  by Less later = refl
  by Equal later = refl
  by Greater later = ap (member l (with_ones e)) later

-- the trie under a name
pub rounded_trie : (index d : Data) (name : Bytes) (T : Table) → Some d ≡ get name index → IsTable T
    → IsTrieValue T (with_ones d) → HasWholeTrie index name T
rounded_trie index d name T at is_table is =
    (is_table, subst (λ o. IsSomeAnd o (λ trie. IsTrieValue T (with_ones trie))) at is)

pub trie_read : (index d : Data) (name : Bytes) (T : Table) → Some d ≡ get name index → IsTable T → IsTrieValue T d
    → HasWholeTrie index name T
trie_read index d name T at is_table is = rounded_trie index d name T at is_table
    (subst (IsTrieValue T) (sym (trie_same T d is)) is)

pub no_trie_read : (index d : Data) (name : Bytes) → Some d ≡ get name index
    → ((T : Table) → IsTable T → ¬ IsTrieValue T (with_ones d)) → (T : Table) → ¬ HasWholeTrie index name T
no_trie_read index d name at none T has =
    none T has.0 (subst (λ o. IsSomeAnd o (λ trie. IsTrieValue T (with_ones trie))) (sym at) has.1)

-- tries are tries of the same tables with ones
whole_trie : (index : Data) (name : Bytes) (T : Table) → HasTrie index name T → HasWholeTrie index name T
whole_trie index name T has = (has.0, at (get name index) has.1) where
  at : (o : Option Data) → IsSomeAnd o (IsTrieValue T) → IsSomeAnd o (λ trie. IsTrieValue T (with_ones trie))
  at None is = absurd is
  at (Some d) is = subst (IsTrieValue T) (sym (trie_same T d is)) is

exact_trie : (index : Data) → IsPlain index → (name : Bytes) (T : Table) → HasWholeTrie index name T
    → HasTrie index name T
exact_trie index plain name T has = (has.0, at (get name index) refl has.1) where
  at : (o : Option Data) → get name index ≡ o → IsSomeAnd o (λ trie. IsTrieValue T (with_ones trie))
      → IsSomeAnd o (IsTrieValue T)
  at None there is = absurd is
  at (Some d) there is = subst (IsTrieValue T) (with_ones_same d (plain_at name index d there plain)) is

whole_tries : (v : Data) (names : List Bytes) (tables : List Table) → HasTries v names tables
    → HasWholeTries v names tables
whole_tries v names tables has = at (get (codes "index") v) has where
  at : (o : Option Data) → IsSomeAnd o (λ index. AllZip (HasTrie index) names tables)
      → IsSomeAnd o (λ index. AllZip (HasWholeTrie index) names tables)
  at None is = absurd is
  at (Some index) is = each_weaker (HasTrie index) (HasWholeTrie index) (whole_trie index) names tables is

exact_tries : (v : Data) (names : List Bytes) (tables : List Table) → IsPlain v → HasWholeTries v names tables
    → HasTries v names tables
exact_tries v names tables plain has = at (get (codes "index") v) refl has where
  at : (o : Option Data) → get (codes "index") v ≡ o → IsSomeAnd o (λ index. AllZip (HasWholeTrie index) names tables)
      → IsSomeAnd o (λ index. AllZip (HasTrie index) names tables)
  at None there is = absurd is
  at (Some index) there is = each_weaker (HasWholeTrie index) (HasTrie index)
      (exact_trie index (plain_at (codes "index") v index there plain)) names tables is

-- what has its parts is of an index, and where the value is plain, the other way round
pub of_parts : (v : Data) (names : List Bytes) (tables : List Table) (contents : Contents)
    → HasParts v names tables contents → IsConsistent contents → IsIndexOf v names tables contents
of_parts v names tables contents has are =
    record { fields = has.fields; tries = whole_tries v names tables has.tries; store = has.store; consistent = are }

pub parts_of : (v : Data) (names : List Bytes) (tables : List Table) (contents : Contents) → IsPlain v
    → IsIndexOf v names tables contents → HasParts v names tables contents
parts_of v names tables contents plain is =
    record { fields = is.fields; tries = exact_tries v names tables plain is.tries; store = is.store }

-- so it is of a printed text, whose value is plain
pub print_parts : (plan : Plan) (commands : Commands) (text : List ℕ) (v : Data) (names : List Bytes)
    (tables : List Table) (contents : Contents) → IsPrintOf plan commands text → ReadsAs text v
    → IsIndexOf v names tables contents → HasParts v names tables contents
print_parts plan commands text v names tables contents print reads is =
    let plain = value_plain plan print.tables print.contents print.value print.printed in
    parts_of v names tables contents (subst IsPlain (sym (print.read_as.no_other_within reads.0 v reads.1)) plain) is
