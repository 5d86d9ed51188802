-- What a change of a store leaves at each reference.
use Rattle.std.proofs.Common.{◌≡◌, ◌≢◌, ℕ, Bool, true, false, cond, Option, None, Some, IfSome, unwrap_or}
use Rattle.std.proofs.Common.{option_and_then, option_map, true≢false, List, [], ◌∷◌, String, Global, string_bytes}
use Rattle.std.proofs.Common.{BTreeMap, is_eq, nat_cmp, bytes_eq, refl, sym, ap, subst, ◌∙◌}
use Rattle.std.specs.Prelude.{map as map_list, string_cmp}
use Rattle.std.specs.FinMap as map
use Rattle.std.specs.Map.{lookup, update}
use Rattle.std.specs.BTreeMap.{is_at, get_by_text, UpdatesBy}
use Rattle.std.specs.Cmp.Lexicographic.{slice_cmp}
use Rattle.std.specs.Cmp.Lexicographic.{nat_list_cmp_total}
use Rattle.std.proofs.lemmas.Slice.Eq.{bytes_eq-Decides}
use Rattle.std.proofs.lemmas.Map.Text.{is_eq-slice_cmp, btree_map_updates_text}
use Rattle.elasticlunr_error.specs.Text.{Bytes, text_cmp}
use Rattle.elasticlunr_store.specs.Contents.{Contents, TextMap, LengthMap, IsConsistent, new_contents, length_at}
use Rattle.elasticlunr_store.specs.Contents.{with_document, with_length, without, text_map}

module _ {X : Type 0} where
  -- what is found after an entry was set, and after one was taken away
  pub found_after_insert : (m : map.FinMap text_cmp X) (key : Bytes) (value : X) (q : Bytes)
      → map.get (map.insert m key value) q ≡ cond (bytes_eq q key) (Some value) (map.get m q)
  found_after_insert m key value q = map.get-insert nat_list_cmp_total m key value q
      ∙ ap (λ b. cond b (Some value) (map.get m q)) (is_eq-slice_cmp q key)

  pub found_after_remove : (m : map.FinMap text_cmp X) (key q : Bytes) → map.get (map.remove m key) q
      ≡ cond (bytes_eq q key) None (map.get m q)
  found_after_remove m key q = map.get-remove nat_list_cmp_total m key q
      ∙ ap (λ b. cond b None (map.get m q)) (is_eq-slice_cmp q key)

  -- a map with an entry is not empty
  filled : (m : map.FinMap text_cmp X) (key : Bytes) (value : X) → map.insert m key value ≢ map.empty
  filled m key value is =
      let at_key : map.get (map.insert m key value) key ≡ Some value = found_after_insert m key value key
      ∙ ap (λ b. cond b (Some value) (map.get m key)) ((bytes_eq-Decides key key).1 refl) in
      let none_there : map.get (map.insert m key value) key ≡ None = ap (λ n. map.get n key) is
      ∙ map.get-empty text_cmp key in
      cc (at_key, none_there)

module _ (c : Contents) (reference : Bytes) where
  pub length_after : (field : Bytes) (n : ℕ) (r f : Bytes) → length_at (with_length c reference field n) r f
      ≡ cond (bytes_eq r reference) (cond (bytes_eq f field) (Some n) (length_at c reference f)) (length_at c r f)
  length_after field n r f = ap (option_and_then (λ lengths. map.get lengths f))
      (found_after_insert c.lengths reference lengths r) ∙ by_test (bytes_eq r reference) where
        lengths : LengthMap
        lengths = map.insert (unwrap_or (map.get c.lengths reference) map.empty) field n

        old : (o : Option LengthMap) → map.get (unwrap_or o map.empty) f ≡ option_and_then (λ m. map.get m f) o
        old None = map.get-empty text_cmp f
        old (Some m) = refl

        by_test : (b : Bool) → option_and_then (λ m. map.get m f) (cond b (Some lengths) (map.get c.lengths r))
            ≡ cond b (cond (bytes_eq f field) (Some n) (length_at c reference f)) (length_at c r f)
        by_test true = found_after_insert (unwrap_or (map.get c.lengths reference) map.empty) field n f
            ∙ ap (cond (bytes_eq f field) (Some n)) (old (map.get c.lengths reference))
        by_test false = refl

  pub length_without : (r f : Bytes) → length_at (without c reference) r f
      ≡ cond (bytes_eq r reference) None (length_at c r f)
  length_without r f = ap (option_and_then (λ lengths. map.get lengths f)) (found_after_remove c.lengths reference r)
      ∙ by_test (bytes_eq r reference) where
        by_test : (b : Bool) → option_and_then (λ m. map.get m f) (cond b None (map.get c.lengths r))
            ≡ cond b None (length_at c r f)
        by_test true = refl
        by_test false = refl

  -- a store's changes keep what is true of contents
  pub without_are_contents : IsConsistent c → IsConsistent (without c reference)
  without_are_contents was = record {
    has_lengths = λ r is. with_test r (bytes_eq r reference) (sym (found_after_remove c.lengths reference r) ∙ is);
    unsaved = λ unsaved r. subst (λ o. IfSome o (λ texts. texts ≡ map.empty))
        (sym (found_after_remove c.texts reference r)) (no_texts unsaved r (bytes_eq r reference));
  } where
    with_test : (r : Bytes) (b : Bool) → cond b None (map.get c.lengths r) ≡ Some map.empty → ⊥
    with_test r true e = cc (e)
    with_test r false e = was.has_lengths r e

    no_texts : c.save ≡ false → (r : Bytes) (b : Bool) → IfSome (cond b None (map.get c.texts r)) (λ texts. texts
        ≡ map.empty)
    no_texts unsaved r true = tt
    no_texts unsaved r false = was.unsaved unsaved r

  pub with_length_are_contents : (field : Bytes) (n : ℕ) → IsConsistent c
      → IsConsistent (with_length c reference field n)
  with_length_are_contents field n was = record {
    has_lengths = λ r is. with_test r (bytes_eq r reference) (sym (found_after_insert c.lengths reference _ r) ∙ is);
    unsaved = was.unsaved;
  } where
    with_test : (r : Bytes) (b : Bool) → cond b
        (Some (map.insert (unwrap_or (map.get c.lengths reference) map.empty) field n)) (map.get c.lengths r)
        ≡ Some map.empty → ⊥
    with_test r true e = filled (unwrap_or (map.get c.lengths reference) map.empty) field n (cc (e))
    with_test r false e = was.has_lengths r e

  pub with_document_are_contents : (document : TextMap) → IsConsistent c
      → IsConsistent (with_document c reference document)
  with_document_are_contents document was = record {
    has_lengths = was.has_lengths;
    unsaved = λ unsaved r. subst (λ o. IfSome o (λ texts. texts ≡ map.empty))
        (sym (found_after_insert c.texts reference _ r)) (no_texts unsaved r (bytes_eq r reference));
  } where
    no_texts : c.save ≡ false → (r : Bytes) (b : Bool)
        → IfSome (cond b (Some (cond c.save document map.empty)) (map.get c.texts r)) (λ texts. texts ≡ map.empty)
    no_texts unsaved r true = ap (λ s. cond s document map.empty) unsaved
    no_texts unsaved r false = was.unsaved unsaved r

pub new_are_contents : (save : Bool) → IsConsistent (new_contents save)
new_are_contents save = record {
  has_lengths = λ r is. nothing (sym (map.get-empty text_cmp r) ∙ is);
  unsaved = λ unsaved r. subst (λ o. IfSome o (λ texts. texts ≡ map.empty))
      (sym (map.get-empty {X = TextMap} text_cmp r)) tt;
} where
  nothing : None ≡ Some (map.empty {X = ℕ} {R = text_cmp}) → ⊥
  nothing e = cc (e)

-- the texts of a map of strings after an insert
abbrev mapped : List (String Global × String Global) → List (Bytes × Bytes)
mapped es = map_list (λ e. (string_bytes e.0, string_bytes e.1)) es

texts_found : (es : List (String Global × String Global)) (q : Bytes) → map.find text_cmp q (mapped es)
    ≡ option_map string_bytes (lookup (is_at (λ k. slice_cmp nat_cmp q (string_bytes k))) es)
texts_found [] q = refl
texts_found (e ∷ es) q = by_test (is_eq (slice_cmp nat_cmp q (string_bytes e.0))) (texts_found es q) where
  by_test : (b : Bool) → map.find text_cmp q (mapped es)
      ≡ option_map string_bytes (lookup (is_at (λ k. slice_cmp nat_cmp q (string_bytes k))) es)
      → cond b (Some (string_bytes e.1)) (map.find text_cmp q (mapped es))
      ≡ option_map string_bytes (cond b (Some e.1) (lookup (is_at (λ k. slice_cmp nat_cmp q (string_bytes k)))
      es))
  by_test true more = refl
  by_test false more = more

found_in_texts : (m : BTreeMap (String Global) (String Global)) (q : Bytes) → map.get (text_map m.entries) q
    ≡ option_map string_bytes (get_by_text m q)
found_in_texts m q = map.get-from_entries nat_list_cmp_total _ q ∙ texts_found m.entries q

pub text_map_insert : (m n : BTreeMap (String Global) (String Global)) (key : Bytes) (value : String Global)
    → ((q : Bytes) → get_by_text n q ≡ update bytes_eq (get_by_text m) key (Some value) q)
    → text_map n.entries ≡ map.insert (text_map m.entries) key (string_bytes value)
text_map_insert m n key value updates = map.same_map nat_list_cmp_total
    (map.slice_cmp-IsAntisymmetric map.nat_cmp-IsAntisymmetric) _ _ (λ q.
    found_in_texts n q ∙ ap (option_map string_bytes) (updates q) ∙ by_test q (bytes_eq key q) (bytes_eq q key) refl
    refl ∙ sym (found_after_insert (text_map m.entries) key (string_bytes value) q)) where
      by_test : (q : Bytes) (a b : Bool) → bytes_eq key q ≡ a → bytes_eq q key ≡ b
          → option_map string_bytes (cond a (Some value) (get_by_text m q))
          ≡ cond b (Some (string_bytes value)) (map.get (text_map m.entries) q)
      by_test q true true ea eb = refl
      by_test q false false ea eb = sym (found_in_texts m q)
      by_test q true false ea eb = absurd (true≢false
          (sym ((bytes_eq-Decides q key).1 (sym ((bytes_eq-Decides key q).0 ea))) ∙ eb))
      by_test q false true ea eb = absurd (true≢false
          (sym ((bytes_eq-Decides key q).1 (sym ((bytes_eq-Decides q key).0 eb))) ∙ ea))

-- the same, in the words of the caller
pub texts_put : (m n : BTreeMap (String Global) (String Global)) (key value : String Global) (texts : TextMap)
    (field text : Bytes) → UpdatesBy string_cmp (λ k. slice_cmp nat_cmp (string_bytes key) (string_bytes k)) m n
    (Some value)
    → text_map m.entries ≡ texts → string_bytes key ≡ field → string_bytes value ≡ text → text_map n.entries
    ≡ map.insert texts field text
texts_put m n key value texts field text updates are its_field its_text =
    text_map_insert m n (string_bytes key) value (btree_map_updates_text (string_bytes key) m n (Some value) updates)
    ∙ ap (λ t. map.insert t (string_bytes key) (string_bytes value)) are
    ∙ ap (λ k. map.insert texts k (string_bytes value)) its_field ∙ ap (map.insert texts field) its_text
