-- What the value of a head tells.
use Rattle.std.proofs.Common.{◌≡◌, ℕ, List, [], ◌∷◌, Option, Some, None, map, refl, sym, ap}
use Rattle.serde_json.specs.Data.{Items, array, string}
use Rattle.elasticlunr_error.specs.Text.{Bytes}
use Rattle.elasticlunr_json.specs.Maps.{count}
use Rattle.elasticlunr_store.specs.Contents.{Contents, length_at}
use Rattle.elasticlunr_print.specs.Printed.{texts}
use Rattle.elasticlunr_piece_head.specs.Values as head
use Rattle.elasticlunr_pieces.specs.Head.{all_lengths, field_lengths, length_value}

pub names_told : (xs ys : List Bytes) → texts ys ≡ head.items_of string xs → xs ≡ ys
names_told [] [] e = refl
names_told [] (y ∷ ys) e = absurd (cc)
names_told (x ∷ xs) [] e = absurd (cc)
names_told (x ∷ xs) (y ∷ ys) e =
    let here : x ≡ y = cc in
    let later : texts ys ≡ head.items_of string xs = cc in
    λ i. here i ∷ names_told xs ys later i

count_told : (m n : ℕ) → count m ≡ count n → m ≡ n
count_told m n e = cc

length_told : (o p : Option ℕ) → length_value o ≡ head.length_value p → p ≡ o
length_told None None e = refl
length_told None (Some n) e = absurd (cc)
length_told (Some n) None e = absurd (cc)
length_told (Some m) (Some n) e = ap Some (sym (count_told m n e))

column_told : (contents : Contents) (field : Bytes) (names : List Bytes) (ns : List (Option ℕ))
    → field_lengths contents field names ≡ head.items_of head.length_value ns
    → ns ≡ map (λ r. length_at contents r field) names
column_told contents field [] [] e = refl
column_told contents field [] (n ∷ ns) e = absurd (cc)
column_told contents field (r ∷ rs) [] e = absurd (cc)
column_told contents field (r ∷ rs) (n ∷ ns) e =
    let here : length_value (length_at contents r field) ≡ head.length_value n = cc in
    let later : field_lengths contents field rs ≡ head.items_of head.length_value ns = cc in
    λ i. length_told (length_at contents r field) n here i ∷ column_told contents field rs ns later i

array_told : (ds es : Items) → array ds ≡ array es → ds ≡ es
array_told ds es e = cc

pub columns_told : (contents : Contents) (fields names : List Bytes) (columns : List (List (Option ℕ)))
    → all_lengths contents fields names ≡ head.items_of (head.array_of head.length_value) columns
    → columns ≡ map (λ field. map (λ r. length_at contents r field) names) fields
columns_told contents [] names [] e = refl
columns_told contents [] names (ns ∷ columns) e = absurd (cc)
columns_told contents (f ∷ fs) names [] e = absurd (cc)
columns_told contents (f ∷ fs) names (ns ∷ columns) e =
    let here : array (field_lengths contents f names) ≡ head.array_of head.length_value ns = cc in
    let later : all_lengths contents fs names ≡ head.items_of (head.array_of head.length_value) columns = cc in
    λ i. column_told contents f names ns (array_told _ _ here) i ∷ columns_told contents fs names columns later i

pub some_array : (ds es : Items) → Some (array ds) ≡ Some (array es) → ds ≡ es
some_array ds es e = cc
