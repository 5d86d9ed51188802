-- Members of an object: what is found at a key, and their order.
use Rattle.std.proofs.Common.{◌≡◌, Some, refl, ap, ◌∙◌, Less, Equal, Greater}
use Rattle.std.proofs.lemmas.Cmp.{nat_list_cmp_total}
use Rattle.std.specs.Ordering.{match_ordering, ordering_reverse}
use Rattle.elasticlunr_error.specs.Text.{Bytes, text_cmp}
use Rattle.serde_json.specs.Data.{Data, Members, no_members, member, put}
use Rattle.serde_json.specs.Find.{get_member}
use Rattle.elasticlunr_trie.specs.Tree.{IsBelow, HasKeysInOrder}
use Rattle.elasticlunr_trie.proofs.OneValue.{further}
use Rattle.elasticlunr_trie.proofs.Printed.{get_here}

pub turned : (k l : Bytes) → text_cmp k l ≡ Less → text_cmp l k ≡ Greater
turned k l e = nat_list_cmp_total.antisymm l k ∙ ap ordering_reverse e

turned_back : (k l : Bytes) → text_cmp k l ≡ Greater → text_cmp l k ≡ Less
turned_back k l e = nat_list_cmp_total.antisymm l k ∙ ap ordering_reverse e

-- what is below the members and below a new key is below both
below_put : (l k : Bytes) (d : Data) (ms : Members) → text_cmp l k ≡ Less → IsBelow l ms → IsBelow l (put k d ms)
below_put l k d no_members h below = (h, tt)
below_put l k d (member m e ms) h below = elim (text_cmp k m) as
    (λ o. IsBelow l (match_ordering o (member k d (member m e ms)) (member m d ms) (member m e (put k d ms)))) [
      | Less ↦ (h, below)
      | Equal ↦ below
      | Greater ↦ (below.0, below_put l k d ms h below.1)
    ]

-- what is put among members in order leaves them in order
pub order_put : (k : Bytes) (d : Data) (ms : Members) → HasKeysInOrder ms → HasKeysInOrder (put k d ms)
order_put k d no_members order = (tt, tt)
order_put k d (member l e ms) order = elim (text_cmp k l) as (λ o. text_cmp k l ≡ o
    → HasKeysInOrder (match_ordering o (member k d (member l e ms)) (member l d ms) (member l e (put k d ms)))) [
      | Less ↦ λ is. ((is, further k l ms is order.0), order)
      | Equal ↦ λ is. order
      | Greater ↦ λ is. (below_put l k d ms (turned_back k l is) order.0, order_put k d ms order.1)
    ] refl

-- each of these members is found in the whole
abbrev pub AreFound : Members → Members → Type 0
AreFound whole no_members = Unit {0}
AreFound whole (member k d ms) = (get_member k whole ≡ Some d) × AreFound whole ms

found_later : (k : Bytes) (d : Data) (whole ms : Members) → IsBelow k ms → AreFound whole ms
    → AreFound (member k d whole) ms
found_later k d whole no_members below found = tt
found_later k d whole (member l e ms) below found = (
  ap (λ o. match_ordering o (get_member l whole) (Some d) (get_member l whole)) (turned k l below.0)
      ∙ found.0,
  found_later k d whole ms below.1 found.1,
)

-- members in order are each found
pub all_found : (ms : Members) → HasKeysInOrder ms → AreFound ms ms
all_found no_members order = tt
all_found (member k d ms) order = (get_here k d ms, found_later k d ms ms order.0 (all_found ms order.1))
