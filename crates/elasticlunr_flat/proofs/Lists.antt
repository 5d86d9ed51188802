-- A number, and as many items as it says.
use Rattle.std.proofs.Common.{◌≡◌, ℕ, ◌<◌, List, [], ◌∷◌, ◌++◌, length, All, sym, ◌∙◌, append_assoc, arith}
use Rattle.std.specs.List.{flat_map}
use Rattle.std.proofs.lemmas.List.Elements.{All-head, All-tail}
use Rattle.elasticlunr_error.specs.Text.{Bytes}
use Rattle.elasticlunr_flat.specs.Flat.{flat_number, flat_list, IsNumber, IsList}
use Rattle.elasticlunr_flat.specs.Reading.{IsRead, BeginsWithNone, IsReadOneWay}
use Rattle.elasticlunr_flat.specs.OneWay.{regrouped, number_one_way}
use Rattle.elasticlunr_flat.proofs.Fields.{next}

-- the bytes are those of so many items that fit, and then the rest
pub record AreRead {A : Type 0} (Fits : A → Type 0) (flat : A → Bytes) (bytes : Bytes) (items : List A) (rest : Bytes)
    (count : ℕ) : Type 0 where
  pub fits : All Fits items
  pub parts : bytes ≡ flat_map flat items ++ rest
  pub counted : length items ≡ count

-- where the rest begins with no item, no further items follow those that were read
nothing_further : {A : Type 0} (Fits : A → Type 0) (flat : A → Bytes) → IsReadOneWay Fits flat → (xs ys : List A)
    (rest more : Bytes) → length xs < length ys → All Fits xs → All Fits ys
    → flat_map flat xs ++ rest ≡ flat_map flat ys ++ more → BeginsWithNone Fits flat rest → ⊥
nothing_further Fits flat one_way [] [] rest more fewer fits_x fits_y same none = omega arith
nothing_further Fits flat one_way [] (y ∷ ys) rest more fewer fits_x fits_y same none =
    none y (flat_map flat ys ++ more) (All-head Fits y ys fits_y) (same
    ∙ append_assoc (flat y) (flat_map flat ys) more)
nothing_further Fits flat one_way (x ∷ xs) [] rest more fewer fits_x fits_y same none = omega arith
nothing_further Fits flat one_way (x ∷ xs) (y ∷ ys) rest more fewer fits_x fits_y same none =
    let first = one_way x y (flat_map flat xs ++ rest) (flat_map flat ys ++ more) (All-head Fits x xs fits_x)
    (All-head Fits y ys fits_y)
    (regrouped (flat x) (flat_map flat xs) rest (flat y) (flat_map flat ys) more same) in
    nothing_further Fits flat one_way xs ys rest more (omega arith) (All-tail Fits x xs fits_x)
    (All-tail Fits y ys fits_y) first.1 none

-- where the rest begins with no item before the number is reached, there is no such list
pub no_list : {A : Type 0} (Fits : A → Type 0) (flat : A → Bytes) → IsReadOneWay Fits flat → (bytes start : Bytes)
    (items : List A) (rest : Bytes) (count counter : ℕ) → IsRead IsNumber flat_number bytes count start
    → AreRead Fits flat start items rest counter → counter < count → BeginsWithNone Fits flat rest
    → BeginsWithNone (IsList Fits) (flat_list flat) bytes
no_list Fits flat one_way bytes start items rest count counter number read fewer none = λ xs more fits is.
    let after = next IsNumber flat_number number_one_way bytes count start number (length xs) (flat_map flat xs ++ more)
    fits.0 (is ∙ append_assoc (flat_number (length xs)) (flat_map flat xs) more) in
    nothing_further Fits flat one_way items xs rest more (omega (arith, read.counted, after.0)) read.fits fits.1
    (sym read.parts ∙ after.1) none
