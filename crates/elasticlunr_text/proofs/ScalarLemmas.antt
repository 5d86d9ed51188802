-- Parts of texts of scalars.
use Rattle.std.proofs.Common.{◌≡◌, ℕ, zero, suc, Bool, true, List, [], ◌∷◌, ◌++◌, take, drop, refl}
use Rattle.std.specs.Str.{all_scalars}
use Rattle.elasticlunr_text.specs.Trimmed.{trimmed}
use Rattle.elasticlunr_text.proofs.BasicLemmas.{and_first, and_second, and_both}
use Rattle.elasticlunr_text.proofs.TrimmingLaws.{IsTrimmed-trimmed}

-- a text of two, and the parts of one by place
pub scalars-append : (xs ys : List ℕ) → all_scalars xs ≡ true → all_scalars ys ≡ true → all_scalars (xs ++ ys) ≡ true
scalars-append [] ys e f = f
scalars-append (x ∷ xs) ys e f = and_both _ _ (and_first _ _ e) (scalars-append xs ys (and_second _ _ e) f)

pub scalars-take : (i : ℕ) (xs : List ℕ) → all_scalars xs ≡ true → all_scalars (take i xs) ≡ true
scalars-take zero xs e = refl
scalars-take (suc i) [] e = refl
scalars-take (suc i) (x ∷ xs) e = and_both _ _ (and_first _ _ e) (scalars-take i xs (and_second _ _ e))

pub scalars-drop : (i : ℕ) (xs : List ℕ) → all_scalars xs ≡ true → all_scalars (drop i xs) ≡ true
scalars-drop zero xs e = e
scalars-drop (suc i) [] e = refl
scalars-drop (suc i) (x ∷ xs) e = scalars-drop i xs (and_second _ _ e)

-- the two parts of a text
pub scalars-front : (xs ys : List ℕ) → all_scalars (xs ++ ys) ≡ true → all_scalars xs ≡ true
scalars-front [] ys e = refl
scalars-front (x ∷ xs) ys e = and_both _ _ (and_first _ _ e) (scalars-front xs ys (and_second _ _ e))

pub scalars-back : (xs ys : List ℕ) → all_scalars (xs ++ ys) ≡ true → all_scalars ys ≡ true
scalars-back [] ys e = e
scalars-back (x ∷ xs) ys e = scalars-back xs ys (and_second _ _ e)

-- what is left of a text that was trimmed
pub scalars-trimmed : (in_class : ℕ → Bool) (text : List ℕ) → all_scalars text ≡ true
    → all_scalars (trimmed in_class text) ≡ true
scalars-trimmed in_class text e =
    let is = IsTrimmed-trimmed in_class text in
    scalars-front (trimmed in_class text) is.after (scalars-back is.before (trimmed in_class text ++ is.after)
    (rw is.split at e))
