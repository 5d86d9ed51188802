-- Plain values: each number is unsigned, and each object has its keys in order.
use Rattle.std.proofs.Common.{◌≡◌, List, [], ◌∷◌, Bool, true, false, ◌||◌, ◌&&◌, refl, Less, Equal, Greater, Ordering}
use Rattle.std.specs.Prelude.{T}
use Rattle.std.specs.Ordering.{match_ordering, is_lt}
use Rattle.std.specs.FinMap as map
use Rattle.std.specs.FinMap.Entries.{below_all, is_sorted}
use Rattle.elasticlunr_error.specs.Text.{Bytes, text_cmp}
use Rattle.elasticlunr_json.specs.Maps.{members, keyed}
use Rattle.elasticlunr_trie.specs.Tree.{IsBelow, HasKeysInOrder}
use Rattle.serde_json.specs.Data.{Num, unsigned, negative, float, Data, null, boolean, number, string, array, object}
use Rattle.serde_json.specs.Data.{Items, no_items, item, Members, no_members, member, put}
use Rattle.serde_json.specs.Written.{has_float, items_have_float, members_have_float}
use Rattle.elasticlunr_print.specs.Printed.{members_after, object_of}
use Rattle.elasticlunr_print.proofs.Members.{order_put}

abbrev pub IsUnsigned : Num → Type 0
IsUnsigned (unsigned n) = Unit {0}
IsUnsigned (negative z) = ⊥
IsUnsigned (float x) = ⊥

abbrev mutual
  pub IsPlain : Data → Type 0
  IsPlain null = Unit {0}
  IsPlain (boolean b) = Unit {0}
  IsPlain (number n) = IsUnsigned n
  IsPlain (string s) = Unit {0}
  IsPlain (array ds) = ArePlainItems ds
  IsPlain (object ms) = HasKeysInOrder ms × ArePlain ms

  pub ArePlainItems : Items → Type 0
  ArePlainItems no_items = Unit {0}
  ArePlainItems (item d ds) = IsPlain d × ArePlainItems ds

  pub ArePlain : Members → Type 0
  ArePlain no_members = Unit {0}
  ArePlain (member k d ms) = IsPlain d × ArePlain ms

neither : (a b : Bool) → a ≡ false → b ≡ false → (a || b) ≡ false
neither a b x y = (λ i. x i || y i)

mutual
  pub no_float : (d : Data) → IsPlain d → has_float d ≡ false
  no_float null plain = refl
  no_float (boolean b) plain = refl
  no_float (number (unsigned n)) plain = refl
  no_float (number (negative z)) plain = absurd plain
  no_float (number (float x)) plain = absurd plain
  no_float (string s) plain = refl
  no_float (array ds) plain = no_item_float ds plain
  no_float (object ms) plain = no_member_float ms plain.1

  no_item_float : (ds : Items) → ArePlainItems ds → items_have_float ds ≡ false
  no_item_float no_items plain = refl
  no_item_float (item d ds) plain = neither _ _ (no_float d plain.0) (no_item_float ds plain.1)

  no_member_float : (ms : Members) → ArePlain ms → members_have_float ms ≡ false
  no_member_float no_members plain = refl
  no_member_float (member k d ms) plain = neither _ _ (no_float d plain.0) (no_member_float ms plain.1)

-- the objects of maps
module _ {X : Type 0} (value : X → Data) where
  first : (a b : Bool) → T (a && b) → T a
  first true b h = tt
  first false b h = h

  second : (a b : Bool) → T (a && b) → T b
  second true b h = h
  second false b h = absurd h

  less : (o : Ordering) → T (is_lt o) → o ≡ Less
  less Less h = refl
  less Equal h = absurd h
  less Greater h = absurd h

  members_below : (k : Bytes) (es : List (Bytes × X)) → T (below_all text_cmp k es) → IsBelow k (members value es)
  members_below k [] h = tt
  members_below k (e ∷ es) h = (
    less (text_cmp k e.0) (first _ (below_all text_cmp k es) h),
    members_below k es
        (second (is_lt (text_cmp k e.0)) _ h),
  )

  members_in_order : (es : List (Bytes × X)) → T (is_sorted text_cmp es) → HasKeysInOrder (members value es)
  members_in_order [] h = tt
  members_in_order (e ∷ es) h = (
    members_below e.0 es (first _ (is_sorted text_cmp es) h),
    members_in_order es
        (second (below_all text_cmp e.0 es) _ h),
  )

  members_plain : ((x : X) → IsPlain (value x)) → (es : List (Bytes × X)) → ArePlain (members value es)
  members_plain each [] = tt
  members_plain each (e ∷ es) = (each e.1, members_plain each es)

  pub keyed_plain : ((x : X) → IsPlain (value x)) → (m : map.FinMap text_cmp X) → IsPlain (keyed value m)
  keyed_plain each m = (members_in_order (map.entries m) (map.entries_sorted m), members_plain each (map.entries m))

put_plain : (k : Bytes) (d : Data) (ms : Members) → IsPlain d → ArePlain ms → ArePlain (put k d ms)
put_plain k d no_members here later = (here, tt)
put_plain k d (member l e ms) here later = elim (text_cmp k l) as
    (λ o. ArePlain (match_ordering o (member k d (member l e ms)) (member l d ms) (member l e (put k d ms)))) [
      | Less ↦ (here, later)
      | Equal ↦ (here, later.1)
      | Greater ↦ (later.0, put_plain k d ms here later.1)
    ]

-- the value of each pair is plain
abbrev pub AllPlain : List (Bytes × Data) → Type 0
AllPlain [] = Unit {0}
AllPlain (pair ∷ pairs) = IsPlain pair.1 × AllPlain pairs

after_plain : (pairs : List (Bytes × Data)) (ms : Members) → HasKeysInOrder ms → ArePlain ms → AllPlain pairs
    → IsPlain (object (members_after ms pairs))
after_plain [] ms order plain each = (order, plain)
after_plain (pair ∷ pairs) ms order plain each = after_plain pairs (put pair.0 pair.1 ms)
    (order_put pair.0 pair.1 ms order) (put_plain pair.0 pair.1 ms each.0 plain) each.1

-- an object of pairs is plain where they are
pub object_plain : (pairs : List (Bytes × Data)) → AllPlain pairs → IsPlain (object_of pairs)
object_plain pairs each = after_plain pairs no_members tt tt each
