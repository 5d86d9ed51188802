-- What a store holds is contents.
use Rattle.std.proofs.Common.{◌≡◌, ◌<◌, ◌^◌, ℕ, Bool, true, false, cond, List, [], ◌∷◌, Option, Some, None, IsSome}
use Rattle.std.proofs.Common.{IfSome, refl, subst, sym, String, Global, BTreeMap, string_bytes}
use mathlib.Core.Bool.{false≢true}
use Rattle.std.specs.Ordering.{eq_by_cmp}
use Rattle.std.specs.Str.{IsUtf8}
use Rattle.std.specs.List.{AllByRecursion}
use Rattle.std.specs.FinMap as finite
use Rattle.std.proofs.lemmas.Cmp.{nat_list_cmp_total}
use Rattle.std.proofs.lemmas.Str.{IsUtf8-string_bytes}
use Rattle.elasticlunr_error.specs.Text.{Bytes, text_cmp}
use Rattle.elasticlunr_json.specs.Maps.{seen}
use Rattle.elasticlunr_store_maps.specs.Contents.{Contents, IsContents, IsConsistent, MapsTextsTo, LengthMap}
use Rattle.elasticlunr_store_maps.specs.Contents.{contents_of, text_map, length_map, document_lengths}
use Rattle.elasticlunr_store_maps.specs.SmallLengths.{AreSmallLengths, HasSmallLengths}
use Rattle.elasticlunr_json.proofs.Texts.{text_tie}
use Rattle.elasticlunr_json.proofs.Sorted.{shown, get_all}

module _ {X Y : Type 0} (f : X → Y) where
  key_found : (es : List (String Global × X)) (key : Bytes) → IsSome (finite.find text_cmp key (shown f es))
      → IsUtf8 key
  key_found [] key there = absurd (false≢true there)
  key_found (e ∷ es) key there = by (eq_by_cmp text_cmp key (string_bytes e.0)) (text_tie key (string_bytes e.0))
      (key_found es key) there
    where
      by : (b : Bool) → (b ≡ true → key ≡ string_bytes e.0)
          → (IsSome (finite.find text_cmp key (shown f es)) → IsUtf8 key)
          → IsSome (cond b (Some (f e.1)) (finite.find text_cmp key (shown f es))) → IsUtf8 key
      by true tied others here = subst IsUtf8 (sym (tied refl)) (IsUtf8-string_bytes e.0)
      by false tied others here = others here

  -- the keys of a program's map are UTF-8
  pub keys_seen : (es : List (String Global × X)) (key : Bytes) → IsSome (finite.get (seen f es) key) → IsUtf8 key
  keys_seen es key there = key_found es key (subst IsSome (finite.get-from_entries nat_list_cmp_total _ key) there)

texts_utf8 : (es : List (String Global × String Global)) → AllByRecursion (λ e. IsUtf8 (string_bytes e.1)) es
texts_utf8 [] = tt
texts_utf8 (e ∷ es) = (IsUtf8-string_bytes e.1, texts_utf8 es)

maps_texts : (es : List (String Global × String Global)) → MapsTextsTo IsUtf8 (text_map es)
maps_texts es = record {
  keys = keys_seen string_bytes es;
  values = λ key. get_all string_bytes IsUtf8 es key
      (texts_utf8 es);
}

documents_utf8 : (es : List (String Global × BTreeMap (String Global) (String Global)))
    → AllByRecursion (λ e. MapsTextsTo IsUtf8 (text_map e.1.entries)) es
documents_utf8 [] = tt
documents_utf8 (e ∷ es) = (maps_texts e.1.entries, documents_utf8 es)

keys_of_lengths : (es : List (String Global × BTreeMap (String Global) ℕ))
    → AllByRecursion (λ e. (key : Bytes) → IsSome (finite.get (length_map e.1.entries) key) → IsUtf8 key) es
keys_of_lengths [] = tt
keys_of_lengths (e ∷ es) = (keys_seen (λ n. n) e.1.entries, keys_of_lengths es)

both : (o : Option LengthMap) → IfSome o (λ m. (key : Bytes) → IsSome (finite.get m key) → IsUtf8 key)
    → IfSome o AreSmallLengths → IfSome o (MapsTextsTo (λ n. n < 2 ^ 64))
both None keys small = tt
both (Some m) keys small = record { keys = keys; values = small }

-- the contents of a store that are consistent and have small lengths
pub are_contents : (save : Bool) (docs : List (String Global × BTreeMap (String Global) (String Global)))
    (doc_info : List (String Global × BTreeMap (String Global) ℕ))
    → IsConsistent (contents_of save docs doc_info) → HasSmallLengths (document_lengths doc_info)
    → IsContents (contents_of save docs doc_info)
are_contents save docs doc_info consistent small = record {
  consistent = consistent;
  texts = record {
    keys = keys_seen (λ m. text_map m.entries) docs;
    values = λ key. get_all (λ m. text_map m.entries)
        (MapsTextsTo IsUtf8) docs key (documents_utf8 docs);
  };
  lengths = record {
    keys = keys_seen (λ m. length_map m.entries) doc_info;
    values = λ key. both (finite.get (document_lengths doc_info) key)
        (get_all (λ m. length_map m.entries) (λ m. (field : Bytes) → IsSome (finite.get m field) → IsUtf8 field)
        doc_info key (keys_of_lengths doc_info)) (small key);
  };
}

some_small : (o : Option LengthMap) → IfSome o (MapsTextsTo (λ n. n < 2 ^ 64)) → IfSome o AreSmallLengths
some_small None h = tt
some_small (Some m) h = h.values

-- and the other way
pub small_lengths : (c : Contents) → IsContents c → HasSmallLengths c.lengths
small_lengths c rule key = some_small (finite.get c.lengths key) (rule.lengths.values key)
