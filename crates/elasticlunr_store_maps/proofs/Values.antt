-- A value is the one of one contents at most, and holds no float.
use Rattle.std.proofs.Common.{◌≡◌, ℕ, Bool, false, ◌||◌, refl}
use Rattle.std.specs.FinMap as finite
use Rattle.serde_json.specs.Data.{string}
use Rattle.serde_json.specs.Written.{has_float}
use Rattle.elasticlunr_error.specs.Text.{Bytes, text_cmp}
use Rattle.elasticlunr_store_maps.specs.Contents.{Contents, TextMap, LengthMap, store_object, store_value}
use Rattle.elasticlunr_json.specs.Maps.{keyed, count}
use Rattle.elasticlunr_json.proofs.Keyed.{same_keyed, bare_keyed}

same_string : (x y : Bytes) → string x ≡ string y → x ≡ y
same_string x y e = cc

pub same_count : (x y : ℕ) → count x ≡ count y → x ≡ y
same_count x y e = cc

-- contents with one value are one
pub one_contents : (c d : Contents) → store_value c ≡ store_value d → c ≡ d
one_contents c d e =
    let saves : c.save ≡ d.save = cc in
    let texts : keyed (keyed string) c.texts ≡ keyed (keyed string) d.texts = cc in
    let lengths : keyed (keyed count) c.lengths ≡ keyed (keyed count) d.lengths = cc in
    λ i. record {
      save = saves i;
      texts = same_keyed (keyed string) (same_keyed string same_string) c.texts d.texts texts i;
      lengths = same_keyed (keyed count) (same_keyed count same_count) c.lengths d.lengths lengths i;
    }

-- the value of contents holds no float
pub no_float : (c : Contents) → has_float (store_value c) ≡ false
no_float c = λ i. bare_keyed (keyed count) (bare_keyed count (λ n. refl)) c.lengths i ||
    (bare_keyed (keyed string) (bare_keyed string (λ s. refl)) c.texts i || false)

-- a store's object tells its parts
pub same_parts : (c : Contents) (save : Bool) (texts : finite.FinMap text_cmp TextMap)
    (lengths : finite.FinMap text_cmp LengthMap) (n : ℕ) → store_object save (keyed (keyed string) texts)
    (keyed (keyed count) lengths) n ≡ store_value c
    → (c.save ≡ save) × (c.texts ≡ texts) × (c.lengths ≡ lengths) × (finite.len c.texts ≡ n)
same_parts c save texts lengths n e =
    let saves : c.save ≡ save = cc in
    let same_texts : keyed (keyed string) c.texts ≡ keyed (keyed string) texts = cc in
    let same_lengths : keyed (keyed count) c.lengths ≡ keyed (keyed count) lengths = cc in
    let counts : finite.len c.texts ≡ n = cc in (
      saves,
      same_keyed (keyed string) (same_keyed string same_string) c.texts texts same_texts,
      same_keyed (keyed count)
          (same_keyed count same_count) c.lengths lengths same_lengths,
      counts,
    )
