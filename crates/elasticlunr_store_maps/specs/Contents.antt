-- What a document store represents, and its JSON value.
use Rattle.std.specs.Prelude.{◌≡◌, ◌≢◌, ◌<◌, ◌^◌, ℕ, List, Bool, false, Option, Some, IsSome}
use Rattle.std.specs.Prelude.{IfSome, unwrap_or, option_and_then, refl, if◌then◌else◌, codes, ◌&&◌}
use Rattle.std.specs.Prelude.{nat_eq, String, string_bytes}
use Rattle.std.specs.declared.alloc.Global.{Global}
use Rattle.std.specs.BTreeMap.{BTreeMap}
use mathlib.Core.Bool.{beq}
use Rattle.std.specs.Str.{bytes_eq, IsUtf8}
use Rattle.std.specs.Coded.{Coded, code_by, coded×, coded_ℕ, coded_bool}
use Rattle.std.specs.FinMap as map
use Rattle.serde_json.specs.Data.{Data, boolean, string, object, Members, no_members, member}
use Rattle.elasticlunr_error.specs.Text.{Bytes, text_cmp, text_code}
use Rattle.elasticlunr_json.specs.Maps.{seen, keyed, count, same_map}

-- from fields to their texts
abbrev pub TextMap : Type 0
TextMap = map.FinMap text_cmp Bytes

-- from fields to their lengths
abbrev pub LengthMap : Type 0
LengthMap = map.FinMap text_cmp ℕ

-- whether texts are kept, and from references to texts and to lengths
pub record Contents : Type 0 where
  pub save : Bool
  pub texts : map.FinMap text_cmp TextMap
  pub lengths : map.FinMap text_cmp LengthMap

abbrev pub contents_code : Coded Contents
contents_code = code_by (Bool × (map.FinMap text_cmp TextMap × map.FinMap text_cmp LengthMap))
    (coded× coded_bool (coded× (map.code text_code (map.code text_code text_code))
    (map.code text_code (map.code text_code coded_ℕ)))) (λ c. (c.save, (c.texts, c.lengths)))
    (λ p. record { save = p.0; texts = p.1.0; lengths = p.1.1 }) (λ _. refl)

-- no reference has an empty map of lengths, and none has a text where texts are not kept
pub record IsConsistent (c : Contents) : Type 0 where
  pub has_lengths : (reference : Bytes) → map.get c.lengths reference ≢ Some map.empty
  pub unsaved : c.save ≡ false → (reference : Bytes)
      → IfSome (map.get c.texts reference) (λ texts. texts ≡ map.empty)

-- the map's keys are UTF-8, and what it has at each of them satisfies P
pub record MapsTextsTo {X : Type 0} (P : X → Type 0) (m : map.FinMap text_cmp X) : Type 0 where
  pub keys : (key : Bytes) → IsSome (map.get m key) → IsUtf8 key
  pub values : (key : Bytes) → IfSome (map.get m key) P

-- Contents of a store: consistent, and their references, fields and texts are UTF-8, and their
-- lengths have 64 bits.
pub record IsContents (c : Contents) : Type 0 where
  pub consistent : IsConsistent c
  pub texts : MapsTextsTo (MapsTextsTo IsUtf8) c.texts
  pub lengths : MapsTextsTo (MapsTextsTo (λ n. n < 2 ^ 64)) c.lengths

abbrev pub new_contents : Bool → Contents
new_contents save = record { save = save; texts = map.empty; lengths = map.empty }

-- the contents with the document at the reference, without its texts where they are not kept
abbrev pub with_document : Contents → Bytes → TextMap → Contents
with_document c reference document =
    record c { texts = map.insert c.texts reference (if c.save then document else map.empty) }

-- the lengths of references with one of them set
abbrev pub lengths_with : map.FinMap text_cmp LengthMap → Bytes → Bytes → ℕ
    → map.FinMap text_cmp LengthMap
lengths_with m reference field n = map.insert m reference
    (map.insert (unwrap_or (map.get m reference) map.empty) field n)

-- the contents with one length set
abbrev pub with_length : Contents → Bytes → Bytes → ℕ → Contents
with_length c reference field n = record c { lengths = lengths_with c.lengths reference field n }

-- the contents without the texts of the reference, whose lengths stay
abbrev pub without_document : Contents → Bytes → Contents
without_document c reference = record c { texts = map.remove c.texts reference }

-- the contents without the texts and the lengths of the reference
abbrev pub without : Contents → Bytes → Contents
without c reference = record c {
  texts = map.remove c.texts reference;
  lengths =
      map.remove c.lengths reference;
}

-- the length of a field of a reference
abbrev pub length_at : Contents → Bytes → Bytes → Option ℕ
length_at c reference field = option_and_then (λ lengths. map.get lengths field)
    (map.get c.lengths reference)

-- the length of a field of a document, 0 where it has none
abbrev pub field_length : Contents → Bytes → Bytes → ℕ
field_length c reference field = if map.contains_key c.texts reference then unwrap_or
    (length_at c reference field) 0 else 0

-- the four members of a store's object
abbrev pub store_members : Data → Data → Data → Data → Members
store_members lengths texts length save = member (codes "docInfo") lengths
    (member (codes "docs") texts (member (codes "length") length
    (member (codes "save") save no_members)))

-- the object of the four parts of a store
abbrev pub store_object : Bool → Data → Data → ℕ → Data
store_object save texts lengths length =
    object (store_members lengths texts (count length) (boolean save))

-- the value of contents
abbrev pub store_value : Contents → Data
store_value c = store_object c.save (keyed (keyed string) c.texts) (keyed (keyed count) c.lengths)
    (map.len c.texts)

-- the value is the one of the contents
abbrev pub IsStoreValue : Contents → Data → Type 0
IsStoreValue c value = value ≡ store_value c

-- two contents are the same in each part
abbrev pub same_contents : Contents → Contents → Bool
same_contents c d = beq c.save d.save && (same_map (same_map bytes_eq) c.texts d.texts && same_map
    (same_map nat_eq) c.lengths d.lengths)

-- what a map of texts represents
abbrev pub text_map : List (String Global × String Global) → TextMap
text_map entries = seen string_bytes entries

-- what a map of lengths represents
abbrev pub length_map : List (String Global × ℕ) → LengthMap
length_map entries = seen (λ n. n) entries

-- what a map of documents represents
abbrev pub document_texts : List (String Global × BTreeMap (String Global) (String Global))
    → map.FinMap text_cmp TextMap
document_texts entries = seen (λ m. text_map m.entries) entries

-- what a map of the lengths of documents represents
abbrev pub document_lengths : List (String Global × BTreeMap (String Global) ℕ)
    → map.FinMap text_cmp LengthMap
document_lengths entries = seen (λ m. length_map m.entries) entries

-- the contents of a store with these fields
abbrev pub contents_of : Bool → List (String Global × BTreeMap (String Global) (String Global))
    → List (String Global × BTreeMap (String Global) ℕ) → Contents
contents_of save docs doc_info = record {
  save = save;
  texts = document_texts docs;
  lengths =
      document_lengths doc_info;
}
