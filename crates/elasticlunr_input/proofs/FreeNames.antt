-- On the first of numbered names that passes a test.
use Rattle.std.proofs.Common.{◌≡◌, ◌+◌, ◌-◌, ◌≤◌, ◌∷◌, ℕ, Bool, true, false, [], Some, None, map, take, drop}
use Rattle.std.proofs.Common.{refl, sym, ap, ◌∙◌, arith}
use Rattle.std.specs.List.{find, range_with_len}
use Rattle.std.specs.Option.{option_or}
use Rattle.std.proofs.lemmas.List.{take-append-drop}
use Rattle.std.proofs.lemmas.List.Folds.{find-append}
use Rattle.std.proofs.lemmas.List.FromFn.{map-range_with_len_more, take-map-range_with_len}
use Rattle.elasticlunr_text.specs.Text.{Bytes}

one_fails : (p : Bytes → Bool) (x : Bytes) → p x ≡ false → find p (x ∷ []) ≡ None
one_fails p x is = rw is refl

one_passes : (p : Bytes → Bool) (x : Bytes) → p x ≡ true → find p (x ∷ []) ≡ Some x
one_passes p x is = rw is refl

-- the names up to one, where those before it fail
up_to : (p : Bytes → Bool) (f : ℕ → Bytes) (number : ℕ) → 1 ≤ number
    → find p (map f (range_with_len 1 (number - 1))) ≡ None
    → find p (map f (range_with_len 1 (number + 1 - 1))) ≡ find p (f number ∷ [])
up_to p f number low none =
    let more : number + 1 - 1 ≡ (number - 1) + 1 = omega (arith, low) in
    ap (λ k. find p (map f (range_with_len 1 k))) more
    ∙ ap (find p) (map-range_with_len_more f 1 (number - 1) number (omega (arith, low)))
    ∙ find-append p (map f (range_with_len 1 (number - 1))) (f number ∷ [])
    ∙ ap (λ o. option_or o (find p (f number ∷ []))) none

-- one more fails
pub fails_more : (p : Bytes → Bool) (f : ℕ → Bytes) (number : ℕ) → 1 ≤ number
    → find p (map f (range_with_len 1 (number - 1))) ≡ None → p (f number) ≡ false
    → find p (map f (range_with_len 1 (number + 1 - 1))) ≡ None
fails_more p f number low none is = up_to p f number low none ∙ one_fails p (f number) is

-- the first that passes is the first of all
pub first_of_all : (p : Bytes → Bool) (f : ℕ → Bytes) (number count : ℕ) → 1 ≤ number → number ≤ count
    → find p (map f (range_with_len 1 (number - 1))) ≡ None → p (f number) ≡ true
    → find p (map f (range_with_len 1 count)) ≡ Some (f number)
first_of_all p f number count low high none is =
    let all = map f (range_with_len 1 count) in
    let k = number + 1 - 1 in
    let first : find p (take k all) ≡ Some (f number) = ap (find p) (take-map-range_with_len f 1 count k (omega arith))
    ∙ up_to p f number low none ∙ one_passes p (f number) is in
    ap (find p) (sym (take-append-drop k all)) ∙ find-append p (take k all) (drop k all)
    ∙ ap (λ o. option_or o (find p (drop k all))) first
