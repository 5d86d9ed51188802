-- What a number at the front of the bytes says of what they begin with.
use Rattle.std.proofs.Common.{◌≡◌, ℕ, zero, suc, ◌-◌, ◌<◌, ◌≤◌, true, false, [], ◌∷◌, ◌++◌, length, get_or, take}
use Rattle.std.proofs.Common.{drop, refl, sym, ap, subst, ◌∙◌, append_assoc, arith}
use Rattle.std.specs.Prelude.{IsUtf8}
use Rattle.std.specs.Int.{w32, from_le_bytes}
use Rattle.std.proofs.lemmas.List.{length-append, take-append-drop, take_at, take_rest}
use Rattle.std.proofs.lemmas.Nat.{le_bytes_4}
use Rattle.elasticlunr_error.specs.Text.{Bytes}
use Rattle.elasticlunr_flat.specs.Flat.{flat_number, flat_text, flat_truth, IsNumber, IsText}
use Rattle.elasticlunr_flat.specs.Reading.{IsRead, BeginsWithNone, IsReadOneWay, IsAnyTruth}
use Rattle.elasticlunr_flat.specs.OneWay.{number_one_way}

-- what was read is what the bytes begin with
pub next : {A : Type 0} (Fits : A → Type 0) (flat : A → Bytes) → IsReadOneWay Fits flat → (bytes : Bytes) (x : A)
    (rest : Bytes) → IsRead Fits flat bytes x rest → (y : A) (more : Bytes) → Fits y → bytes ≡ flat y ++ more
    → (x ≡ y) × (rest ≡ more)
next Fits flat one_way bytes x rest read y more fits is =
    one_way x y rest more read.fits fits (sym read.parts ∙ is)

-- fewer than four bytes begin with no number
pub number_short : (bytes : Bytes) → length bytes < 4 → BeginsWithNone IsNumber flat_number bytes
unfolding flat_number
number_short bytes short = λ n rest fits is.
    let long : length (flat_number n) ≡ 4 = refl in
    omega (arith, short, ap length is, length-append (flat_number n) rest, long)

-- each of four bytes is below 256, and so is what stands past them
four_bytes : (a b c d : ℕ) → a < 256 → b < 256 → c < 256 → d < 256 → (i : ℕ)
    → get_or (a ∷ b ∷ c ∷ d ∷ []) i 0 < 256
four_bytes a b c d below_a below_b below_c below_d zero = below_a
four_bytes a b c d below_a below_b below_c below_d (suc zero) = below_b
four_bytes a b c d below_a below_b below_c below_d (suc (suc zero)) = below_c
four_bytes a b c d below_a below_b below_c below_d (suc (suc (suc zero))) = below_d
four_bytes a b c d below_a below_b below_c below_d (suc (suc (suc (suc i)))) = omega arith

first_four : (bytes : Bytes) → 4 ≤ length bytes → get_or bytes 0 0 ∷ get_or bytes 1 0 ∷ get_or bytes 2 0
    ∷ get_or bytes 3 0 ∷ [] ≡ take 4 bytes
first_four [] long = absurd (omega arith)
first_four (a ∷ []) long = absurd (omega arith)
first_four (a ∷ b ∷ []) long = absurd (omega arith)
first_four (a ∷ b ∷ c ∷ []) long = absurd (omega arith)
first_four (a ∷ b ∷ c ∷ d ∷ more) long = refl

-- the number of the first four bytes is read
pub number_is_read : (bytes : Bytes) (n : ℕ) → 4 ≤ length bytes → get_or bytes 0 0 < 256 → get_or bytes 1 0 < 256
    → get_or bytes 2 0 < 256 → get_or bytes 3 0 < 256
    → n ≡ from_le_bytes w32 (get_or bytes 0 0 ∷ get_or bytes 1 0 ∷ get_or bytes 2 0 ∷ get_or bytes 3 0 ∷ [])
    → IsNumber n → IsRead IsNumber flat_number bytes n (take (length bytes - 4) (drop 4 bytes))
unfolding flat_number
number_is_read bytes n long below_0 below_1 below_2 below_3 n_is fits =
    let front : Bytes = get_or bytes 0 0 ∷ get_or bytes 1 0 ∷ get_or bytes 2 0 ∷ get_or bytes 3 0 ∷ [] in
    let number : flat_number n ≡ take 4 bytes = le_bytes_4 front n refl
    (four_bytes (get_or bytes 0 0) (get_or bytes 1 0) (get_or bytes 2 0) (get_or bytes 3 0) below_0 below_1 below_2
    below_3) n_is ∙ first_four bytes long in
    record {
      fits = fits;
      parts = sym (take-append-drop 4 bytes) ∙ ap (λ front. front ++ drop 4 bytes) (sym number)
          ∙ ap (λ rest. flat_number n ++ rest) (sym (take_rest bytes 4));
    }

-- a number before a text is the number of its bytes
before_text : (bytes rest : Bytes) (n : ℕ) → IsRead IsNumber flat_number bytes n rest → (text more : Bytes)
    → IsText text → bytes ≡ flat_text text ++ more → (n ≡ length text) × (rest ≡ text ++ more)
before_text bytes rest n read text more fits is =
    next IsNumber flat_number number_one_way bytes n rest read (length text) (text ++ more) fits.1
    (is ∙ append_assoc (flat_number (length text)) text more)

-- where there are fewer bytes than the number says, there is no text
pub text_short : (bytes rest : Bytes) (n : ℕ) → IsRead IsNumber flat_number bytes n rest → length rest < n
    → BeginsWithNone IsText flat_text bytes
text_short bytes rest n read short = λ text more fits is.
    let after = before_text bytes rest n read text more fits is in
    omega (arith, short, after.0, ap length after.1, length-append text more)

-- where the bytes are not UTF-8, there is no text
pub text_not_utf8 : (bytes rest front : Bytes) (n : ℕ) → IsRead IsNumber flat_number bytes n rest → front ≡ take n rest
    → (IsUtf8 front → ⊥) → BeginsWithNone IsText flat_text bytes
text_not_utf8 bytes rest front n read front_is not_utf8 = λ text more fits is.
    let after = before_text bytes rest n read text more fits is in
    let same : front ≡ text = front_is ∙ ap (take n) after.1 ∙ take_at text more n (sym after.0) in
    not_utf8 (subst IsUtf8 (sym same) fits.0)

-- a number other than 0 and 1 does not stand for a Boolean
pub no_truth : (bytes rest : Bytes) (n : ℕ) → IsRead IsNumber flat_number bytes n rest → (n ≡ 0 → ⊥) → (n ≡ 1 → ⊥)
    → BeginsWithNone IsAnyTruth flat_truth bytes
no_truth bytes rest n read not_0 not_1 false more fits is =
    not_0 (next IsNumber flat_number number_one_way bytes n rest read 0 more (omega arith) is).0
no_truth bytes rest n read not_0 not_1 true more fits is =
    not_1 (next IsNumber flat_number number_one_way bytes n rest read 1 more (omega arith) is).0
