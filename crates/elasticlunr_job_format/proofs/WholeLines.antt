-- On a text that goes on after whole lines.
use Rattle.std.proofs.Common.{◌≡◌, ◌<◌, List, [], ◌∷◌, ◌++◌, length, Bool, true, false, eqb, inl, inr, refl, sym, ap}
use Rattle.std.proofs.Common.{◌∙◌, append_assoc, arith}
use Rattle.std.specs.List.{filter, slice_split, onto_first}
use Rattle.std.proofs.lemmas.List.{append-nil}
use Rattle.std.proofs.lemmas.List.Elements.{filter-append}
use Rattle.std.proofs.lemmas.List.Splits.{slice_split-cons_yes, slice_split-cons_no, length-slice_split}
use Rattle.elasticlunr_error.specs.Text.{Bytes}
use Rattle.elasticlunr_job_format.specs.LineRead.{AreWhole}
use Rattle.elasticlunr_job_format.specs.Lines.{filled_lines, is_filled, lines_of}

onto_some : {X : Type 0} (x : X) (parts more : List (List X)) → 0 < length parts → onto_first x (parts ++ more)
    ≡ onto_first x parts ++ more
onto_some x [] more some = absurd (omega arith)
onto_some x (part ∷ parts) more some = refl

split_cons : {X : Type 0} (p : X → Bool) (x : X) (xs : List X) (y : X) (ys : List X) (b : Bool) → p x ≡ b
    → slice_split p (xs ++ y ∷ ys) ≡ slice_split p xs ++ slice_split p ys → slice_split p (x ∷ (xs ++ y ∷ ys))
    ≡ slice_split p (x ∷ xs) ++ slice_split p ys
split_cons p x xs y ys true is rest =
    slice_split-cons_yes p x (xs ++ y ∷ ys) is
    ∙ (ap (λ parts. [] ∷ parts) rest ∙ ap (λ parts. parts ++ slice_split p ys)
    (sym (slice_split-cons_yes p x xs is)))
split_cons p x xs y ys false is rest =
    slice_split-cons_no p x (xs ++ y ∷ ys) is
    ∙ (ap (onto_first x) rest ∙ (onto_some x (slice_split p xs) (slice_split p ys)
    (omega (arith, length-slice_split p xs))
    ∙ ap (λ parts. parts ++ slice_split p ys) (sym (slice_split-cons_no p x xs is))))

-- the parts on both sides of a cut
pub split_append : {X : Type 0} (p : X → Bool) (xs : List X) (y : X) (ys : List X) → p y ≡ true
    → slice_split p (xs ++ y ∷ ys) ≡ slice_split p xs ++ slice_split p ys
split_append p [] y ys cut = slice_split-cons_yes p y ys cut
split_append p (x ∷ xs) y ys cut = split_cons p x xs y ys (p x) refl (split_append p xs y ys cut)

lines_append : (front more : Bytes) → lines_of (front ++ 10 ∷ more) ≡ lines_of front ++ lines_of more
lines_append front more = split_append (λ b. eqb b 10) front 10 more refl

pub filled_front : (front more : Bytes) → filled_lines (front ++ 10 ∷ more)
    ≡ filter is_filled (lines_of front) ++ filled_lines more
filled_front front more = ap (filter is_filled) (lines_append front more)
    ∙ filter-append is_filled (lines_of front) (lines_of more)

-- its lines are those of both
pub filled_append : (text more : Bytes) → AreWhole text → filled_lines (text ++ more)
    ≡ filled_lines text ++ filled_lines more
filled_append text more whole = elim whole [
  | inl none ↦ ap (λ t. filled_lines (t ++ more)) none ∙ ap (λ t. filled_lines t ++ filled_lines more) (sym none)
  | inr f ↦
      let here : filled_lines text ≡ filter is_filled (lines_of f.0) = ap filled_lines f.1
      ∙ (filled_front f.0 [] ∙ append-nil (filter is_filled (lines_of f.0))) in
      ap (λ t. filled_lines (t ++ more)) f.1 ∙ (ap filled_lines (append_assoc f.0 (10 ∷ []) more)
      ∙ (filled_front f.0 more ∙ ap (λ ls. ls ++ filled_lines more) (sym here)))
]
