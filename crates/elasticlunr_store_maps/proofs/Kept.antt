-- The calls keep the contents' rule.
use Rattle.std.proofs.Common.{◌≡◌, ◌≢◌, ◌<◌, ◌^◌, ℕ, Bool, true, false, cond, Option, Some, None, IfSome, sym, ap}
use Rattle.std.proofs.Common.{subst, unwrap_or}
use Rattle.std.specs.Ordering.{eq_by_cmp}
use Rattle.std.specs.FinMap as finite
use Rattle.std.proofs.lemmas.Cmp.{nat_list_cmp_total}
use Rattle.elasticlunr_error.specs.Text.{Bytes, text_cmp}
use Rattle.elasticlunr_json.proofs.Seen.{filled_map}
use Rattle.elasticlunr_store_maps.specs.Contents.{Contents, TextMap, LengthMap, IsConsistent, new_contents}
use Rattle.elasticlunr_store_maps.specs.Contents.{with_document, with_length, without_document}
use Rattle.elasticlunr_store_maps.specs.SmallLengths.{AreSmallLengths, HasSmallLengths}

module _ {X : Type 0} (P : X → Type 0) where
  either : (b : Bool) (w old : Option X) → IfSome w P → IfSome old P → IfSome (cond b w old) P
  either true w old p q = p
  either false w old p q = q

  -- what holds of what a map has holds after a change
  pub all_inserted : (m : finite.FinMap text_cmp X) (r : Bytes) (x : X) → P x
      → ((q : Bytes) → IfSome (finite.get m q) P) → (q : Bytes) → IfSome (finite.get (finite.insert m r x) q) P
  all_inserted m r x p all q = subst (λ o. IfSome o P) (sym (finite.get-insert nat_list_cmp_total m r x q))
      (either (eq_by_cmp text_cmp q r) (Some x) (finite.get m q) p (all q))

  pub all_removed : (m : finite.FinMap text_cmp X) (r : Bytes) → ((q : Bytes) → IfSome (finite.get m q) P) → (q : Bytes)
      → IfSome (finite.get (finite.remove m r) q) P
  all_removed m r all q = subst (λ o. IfSome o P) (sym (finite.get-remove nat_list_cmp_total m r q))
      (either (eq_by_cmp text_cmp q r) None (finite.get m q) tt (all q))

  pub all_empty : (q : Bytes) → IfSome (finite.get (finite.empty {R = text_cmp}) q) P
  all_empty q = subst (λ o. IfSome o P) (sym (finite.get-empty text_cmp q)) tt

-- small lengths stay so
pub small_empty : HasSmallLengths finite.empty
small_empty = all_empty AreSmallLengths

pub small_removed : (m : finite.FinMap text_cmp LengthMap) (r : Bytes) → HasSmallLengths m
    → HasSmallLengths (finite.remove m r)
small_removed = all_removed AreSmallLengths

pub one_more_small : (m : LengthMap) (field : Bytes) (n : ℕ) → n < 2 ^ 64 → AreSmallLengths m
    → AreSmallLengths (finite.insert m field n)
one_more_small = all_inserted (λ n. n < 2 ^ 64)

pub small_inserted : (m : finite.FinMap text_cmp LengthMap) (r : Bytes) (lengths : LengthMap) → AreSmallLengths lengths
    → HasSmallLengths m → HasSmallLengths (finite.insert m r lengths)
small_inserted = all_inserted AreSmallLengths

or_empty : (o : Option LengthMap) → IfSome o AreSmallLengths → AreSmallLengths (unwrap_or o finite.empty)
or_empty None h = all_empty (λ n. n < 2 ^ 64)
or_empty (Some m) h = h

pub length_small : (m : finite.FinMap text_cmp LengthMap) (r field : Bytes) (n : ℕ) → n < 2 ^ 64 → HasSmallLengths m
    → HasSmallLengths (finite.insert m r (finite.insert (unwrap_or (finite.get m r) finite.empty) field n))
length_small m r field n bound small = small_inserted m r _
    (one_more_small _ field n bound (or_empty (finite.get m r) (small r))) small

-- the first clause of the rule, value by value
some_filled : (o : Option LengthMap) → IfSome o (λ m. m ≢ finite.empty) → o ≢ Some finite.empty
some_filled None h e = cc
some_filled (Some m) h e = h (ap (λ o. unwrap_or o m) e)

filled_some : (o : Option LengthMap) → o ≢ Some finite.empty → IfSome o (λ m. m ≢ finite.empty)
filled_some None h = tt
filled_some (Some m) h = λ e. h (ap Some e)

pub filled : (c : Contents) → IsConsistent c → (q : Bytes) → IfSome (finite.get c.lengths q) (λ m. m ≢ finite.empty)
filled c rule q = filled_some (finite.get c.lengths q) (rule.has_lengths q)

pub new_kept : (save : Bool) → IsConsistent (new_contents save)
new_kept save = record {
  has_lengths = λ q. some_filled (finite.get finite.empty q) (all_empty (λ m. m ≢ finite.empty) q);
  unsaved = λ _ q. all_empty (λ m. m ≡ finite.empty) q;
}

pub document_kept : (c : Contents) (r : Bytes) (d : TextMap) → IsConsistent c → IsConsistent (with_document c r d)
document_kept c r d rule = record {
  has_lengths = rule.has_lengths;
  unsaved = λ not q. all_inserted (λ m. m ≡ finite.empty) c.texts r _ (ap (λ b. cond b d finite.empty) not)
      (rule.unsaved not) q;
}

pub length_kept : (c : Contents) (r field : Bytes) (n : ℕ) → IsConsistent c → IsConsistent (with_length c r field n)
length_kept c r field n rule = record {
  has_lengths = λ q. some_filled _ (all_inserted (λ m. m ≢ finite.empty) c.lengths r _ (filled_map _ field n)
      (filled c rule) q);
  unsaved = rule.unsaved;
}

pub removed_kept : (c : Contents) (r : Bytes) → IsConsistent c → IsConsistent (without_document c r)
removed_kept c r rule = record {
  has_lengths = rule.has_lengths;
  unsaved = λ not q. all_removed (λ m. m ≡ finite.empty) c.texts r (rule.unsaved not) q;
}

pub without_lengths_kept : (c : Contents) (r : Bytes) → IsConsistent c
    → IsConsistent (record c { lengths = finite.remove c.lengths r })
without_lengths_kept c r rule = record {
  has_lengths = λ q. some_filled _ (all_removed (λ m. m ≢ finite.empty) c.lengths r (filled c rule) q);
  unsaved = rule.unsaved;
}
