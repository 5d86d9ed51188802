-- One step of the loops that set lengths.
use Rattle.std.proofs.Common.{◌≡◌, ◌<◌, ◌≤◌, ◌+◌, ℕ, zero, suc, List, [], ◌∷◌, Option, Some, None, drop, length, get_or, map, option_map}
use Rattle.std.proofs.lemmas.Option.{slice_get-get_or}
use Rattle.std.proofs.Common.{refl, sym, ap, ◌∙◌, arith, String, Global, string_bytes}
use Rattle.std.specs.Prelude.{slice_get}
use Rattle.elasticlunr_error.specs.Text.{Bytes, bytes_of}
use Rattle.elasticlunr_store.specs.Contents.{Contents}
use Rattle.elasticlunr_piece_search.specs.Documents.{with_all_lengths, with_length_of, with_lengths}

none_left : (c : Contents) (field : Bytes) (rs : List Bytes) → with_lengths c field rs [] ≡ c
none_left c field [] = refl
none_left c field (r ∷ rs) = refl

no_columns : (c : Contents) (fields rs : List Bytes) → with_all_lengths c fields rs [] ≡ c
no_columns c [] rs = refl
no_columns c (field ∷ fields) rs = refl

-- what one reference more has
abbrev pub with_next : Contents → Bytes → Bytes → Option (Option ℕ) → Contents
with_next c field r None = c
with_next c field r (Some n) = with_length_of c field r n

length_step : (c : Contents) (field : Bytes) (rs : List (String Global)) (ns : List (Option ℕ)) (i : ℕ) (s : String Global)
    → i < length rs → s ≡ get_or rs i s
    → with_lengths c field (bytes_of (drop i rs)) (drop i ns)
    ≡ with_lengths (with_next c field (string_bytes s) (slice_get ns i)) field (bytes_of (drop (suc i) rs)) (drop (suc i) ns)
length_step c field [] ns i s lt at = absurd (omega (arith, lt))
length_step c field (r ∷ rs) [] zero s lt at = sym (none_left c field (bytes_of rs))
length_step c field (r ∷ rs) (n ∷ ns) zero s lt at =
    ap (λ t. with_lengths (with_length_of c field (string_bytes t) n) field (bytes_of rs) ns) (sym at)
length_step c field (r ∷ rs) [] (suc i) s lt at =
    none_left c field (bytes_of (drop i rs)) ∙ sym (none_left c field (bytes_of (drop (suc i) rs)))
length_step c field (r ∷ rs) (n ∷ ns) (suc i) s lt at = length_step c field rs ns i s (omega (arith, lt)) at

pub next_length : (c : Contents) (field : Bytes) (rs : List (String Global)) (ns : List (Option ℕ)) (i : ℕ)
    (s : String Global) (o : Option (Option ℕ)) → i < length rs → s ≡ get_or rs i s → slice_get ns i ≡ o
    → with_lengths (with_next c field (string_bytes s) o) field (bytes_of (drop (i + 1) rs)) (drop (i + 1) ns)
    ≡ with_lengths c field (bytes_of (drop i rs)) (drop i ns)
next_length c field rs ns i s o lt at is = let one : i + 1 ≡ suc i = omega arith in
    (λ j. with_lengths (with_next c field (string_bytes s) (sym is j)) field (bytes_of (drop (one j) rs)) (drop (one j) ns))
    ∙ sym (length_step c field rs ns i s lt at)

abbrev pub with_next_column : Contents → Bytes → List Bytes → Option (List (Option ℕ)) → Contents
with_next_column c field rs None = c
with_next_column c field rs (Some ns) = with_lengths c field rs ns

column_step : (c : Contents) (fields : List (String Global)) (rs : List Bytes) (columns : List (List (Option ℕ))) (i : ℕ)
    (s : String Global) → i < length fields → s ≡ get_or fields i s
    → with_all_lengths c (bytes_of (drop i fields)) rs (drop i columns)
    ≡ with_all_lengths (with_next_column c (string_bytes s) rs (slice_get columns i)) (bytes_of (drop (suc i) fields)) rs
    (drop (suc i) columns)
column_step c [] rs columns i s lt at = absurd (omega (arith, lt))
column_step c (f ∷ fs) rs [] zero s lt at = sym (no_columns c (bytes_of fs) rs)
column_step c (f ∷ fs) rs (ns ∷ columns) zero s lt at =
    ap (λ t. with_all_lengths (with_lengths c (string_bytes t) rs ns) (bytes_of fs) rs columns) (sym at)
column_step c (f ∷ fs) rs [] (suc i) s lt at =
    no_columns c (bytes_of (drop i fs)) rs ∙ sym (no_columns c (bytes_of (drop (suc i) fs)) rs)
column_step c (f ∷ fs) rs (ns ∷ columns) (suc i) s lt at = column_step c fs rs columns i s (omega (arith, lt)) at

pub next_column : (c : Contents) (fields : List (String Global)) (rs : List Bytes) (columns : List (List (Option ℕ)))
    (i : ℕ) (s : String Global) (o : Option (List (Option ℕ))) → i < length fields → s ≡ get_or fields i s
    → slice_get columns i ≡ o
    → with_all_lengths (with_next_column c (string_bytes s) rs o) (bytes_of (drop (i + 1) fields)) rs (drop (i + 1) columns)
    ≡ with_all_lengths c (bytes_of (drop i fields)) rs (drop i columns)
next_column c fields rs columns i s o lt at is = let one : i + 1 ≡ suc i = omega arith in
    (λ j. with_all_lengths (with_next_column c (string_bytes s) rs (sym is j)) (bytes_of (drop (one j) fields)) rs
    (drop (one j) columns)) ∙ sym (column_step c fields rs columns i s lt at)

-- what a slice has at a place
pub there : {A : Type 0} (xs : List A) (i : ℕ) (x : A) → i < length xs → x ≡ get_or xs i x → slice_get xs i ≡ Some x
there xs i x lt at = slice_get-get_or xs i x lt ∙ ap Some (sym at)

pub past : {A : Type 0} (xs : List A) (i : ℕ) → length xs ≤ i → slice_get xs i ≡ None
past [] i le = refl
past (x ∷ xs) zero le = absurd (omega (arith, le))
past (x ∷ xs) (suc i) le = past xs i (omega (arith, le))

pub mapped_there : {A B : Type 0} (f : A → B) (xs : List A) (i : ℕ) (o : Option A) → slice_get xs i ≡ o
    → slice_get (map f xs) i ≡ option_map f o
mapped_there f [] i o is = ap (option_map f) is
mapped_there f (x ∷ xs) zero o is = ap (option_map f) is
mapped_there f (x ∷ xs) (suc i) o is = mapped_there f xs i o is
