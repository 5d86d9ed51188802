-- Reading the maps of a value.
use Rattle.std.proofs.Common.{◌≡◌, ◌≢◌, ℕ, List, [], ◌∷◌, ◌++◌, Option, Some, None, IsSomeAnd, IfSome, Bool, refl, sym}
use Rattle.std.proofs.Common.{ap, ◌∙◌, string_bytes, string_cmp, Less, Equal, Greater}
use Rattle.std.specs.Ordering.{match_ordering}
use Rattle.std.proofs.lemmas.List.{nil_from_length}
use Rattle.std.specs.List.Sorted.{IsStrictlySortedBy}
use Rattle.std.specs.Map.{keys_of}
use Rattle.std.specs.FinMap as finite
use Rattle.std.specs.FinMap.Entries.{by_order}
use Rattle.std.proofs.lemmas.Cmp.{nat_list_cmp_total}
use Rattle.std.specs.Option.{option_and_then}
use Rattle.serde_json.specs.Data.{Num, unsigned, negative, float, Data, null, boolean, number, string, array, object}
use Rattle.serde_json.specs.Data.{Items, Members, no_members, member, put}
use Rattle.serde_json.specs.Find.{as_array, as_object, as_str, as_bool, as_number, as_u64}
use Rattle.serde_json.specs.View.{view, members_view}
use Rattle.serde_json.proofs.Views.{Entry, put_last}
use Rattle.elasticlunr_error.specs.Text.{Bytes, text_cmp}
use Rattle.elasticlunr_json.specs.Maps.{members, keyed, count}

module _ {Y : Type 0} (value : Y → Data) where
  members_put : (k : Bytes) (y : Y) (es : List (Bytes × Y)) → members value (finite.put text_cmp k y es)
      ≡ put k (value y) (members value es)
  members_put k y [] = refl
  members_put k y (e ∷ es) =
      elim (text_cmp k e.0) as (λ o. members value
      (by_order o ((k, y) ∷ e ∷ es) ((e.0, y) ∷ es) (e ∷ finite.put text_cmp k y es))
      ≡ match_ordering o (member k (value y) (members value (e ∷ es))) (member e.0 (value y) (members value es))
      (member e.0 (value e.1) (put k (value y) (members value es)))) [
        | Less ↦ refl
        | Equal ↦ refl
        | Greater ↦ ap (member e.0 (value e.1)) (members_put k y es)
      ]

  -- one more member, and one more entry
  pub read_more : (m n : finite.FinMap text_cmp Y) (done : List Entry) (e : Entry) (more : List Entry) (y : Y)
      → IsStrictlySortedBy string_cmp (keys_of (done ++ e ∷ more))
      → members_view done ≡ members value (finite.entries m) → n ≡ finite.insert m (string_bytes e.0) y → view e.1
      ≡ value y → members_view (done ++ e ∷ []) ≡ members value (finite.entries n)
  read_more m n done e more y sorted held is here =
      sym (put_last done e more sorted) ∙ (λ i. put (string_bytes e.0) (here i) (held i))
      ∙ sym (members_put (string_bytes e.0) y (finite.entries m))
      ∙ ap (members value) (sym (finite.entries-insert nat_list_cmp_total m (string_bytes e.0) y)
      ∙ ap finite.entries (sym is))

  -- no member, and no entry
  pub no_members_yet : (m : finite.FinMap text_cmp Y) → m ≡ finite.empty → no_members ≡ members value (finite.entries m)
  no_members_yet m is = sym (ap (members value)
      (nil_from_length _ (sym (finite.len-entries m) ∙ ap finite.len is ∙ finite.len-empty text_cmp Y)))

  pub value_there : (done : List Entry) (e : Entry) (more : List Entry) (es : List (Bytes × Y))
      → members_view (done ++ e ∷ more) ≡ members value es → (y : Y) × (view e.1 ≡ value y)
  value_there [] e more [] h = absurd (cc)
  value_there [] e more (x ∷ es) h = let same : view e.1 ≡ value x.1 = cc in (x.1, same)
  value_there (d ∷ done) e more [] h = absurd (cc)
  value_there (d ∷ done) e more (x ∷ es) h = let rest : members_view (done ++ e ∷ more)
      ≡ members value es = cc in value_there done e more es rest

  -- a member whose value is none of those
  pub foreign_member : (d : Data) (all done : List Entry) (e : Entry) (more : List Entry) → d
      ≡ object (members_view all) → done ++ e ∷ more ≡ all → ((y : Y) → view e.1 ≢ value y)
      → (m : finite.FinMap text_cmp Y) → d ≢ keyed value m
  foreign_member d all done e more is split none m same =
      let both : object (members_view (done ++ e ∷ more)) ≡ object (members value (finite.entries m)) =
      ap (λ es. object (members_view es)) split ∙ sym is ∙ same in
      let inner : members_view (done ++ e ∷ more) ≡ members value (finite.entries m) = cc in
      let there = value_there done e more (finite.entries m) inner in
      none there.0 there.1

-- what the parts of a value say of it
pub object_of : (d : Data) (ms : Members) → Some ms ≡ as_object d → d ≡ object ms
object_of null ms e = absurd (cc)
object_of (boolean b) ms e = absurd (cc)
object_of (number n) ms e = absurd (cc)
object_of (string s) ms e = absurd (cc)
object_of (array ds) ms e = absurd (cc)
object_of (object ns) ms e = let same : ns ≡ ms = cc in ap object same

pub array_of : (d : Data) (ds : Items) → Some ds ≡ as_array d → d ≡ array ds
array_of null ds e = absurd (cc)
array_of (boolean b) ds e = absurd (cc)
array_of (number n) ds e = absurd (cc)
array_of (string s) ds e = absurd (cc)
array_of (array es) ds e = let same : es ≡ ds = cc in ap array same
array_of (object ms) ds e = absurd (cc)

pub string_of : (d : Data) (s : Bytes) → Some s ≡ as_str d → d ≡ string s
string_of null s e = absurd (cc)
string_of (boolean b) s e = absurd (cc)
string_of (number n) s e = absurd (cc)
string_of (string t) s e = let same : t ≡ s = cc in ap string same
string_of (array ds) s e = absurd (cc)
string_of (object ms) s e = absurd (cc)

number_of : (x : Num) (n : ℕ) → Some n ≡ as_u64 x → x ≡ unsigned n
number_of (unsigned m) n e = let same : m ≡ n = cc in ap unsigned same
number_of (negative z) n e = absurd (cc)
number_of (float x) n e = absurd (cc)

pub count_of : (d : Data) (n : ℕ) → Some n ≡ option_and_then as_u64 (as_number d) → d ≡ count n
count_of null n e = absurd (cc)
count_of (boolean b) n e = absurd (cc)
count_of (number x) n e = ap number (number_of x n e)
count_of (string s) n e = absurd (cc)
count_of (array ds) n e = absurd (cc)
count_of (object ms) n e = absurd (cc)

pub no_string : (d : Data) → None ≡ as_str d → (s : Bytes) → d ≢ string s
no_string d e s is = let none : None ≡ Some s = e ∙ ap as_str is in (cc)

pub no_count : (d : Data) → None ≡ option_and_then as_u64 (as_number d) → (n : ℕ) → d ≢ count n
no_count d e n is = let none : None ≡ Some n = e ∙ ap (λ x. option_and_then as_u64 (as_number x)) is in (cc)

pub bool_of : (d : Data) (b : Bool) → Some b ≡ as_bool d → d ≡ boolean b
bool_of null b e = absurd (cc)
bool_of (boolean a) b e = let same : a ≡ b = cc in ap boolean same
bool_of (number n) b e = absurd (cc)
bool_of (string s) b e = absurd (cc)
bool_of (array ds) b e = absurd (cc)
bool_of (object ms) b e = absurd (cc)

pub not_both : {X : Type 0} (x : X) (o : Option X) → IsSomeAnd o (λ y. y ≢ x) → IfSome o (λ y. y ≡ x) → ⊥
not_both x None h k = absurd h
not_both x (Some y) h k = h k
