-- On places in a text that goes on after whole lines.
use Rattle.std.proofs.Common.{◌≡◌, ◌+◌, ◌-◌, ℕ, List, [], ◌∷◌, ◌++◌, length, take, drop, Bool, true, false, not, cond}
use Rattle.std.proofs.Common.{eqb, count_by, reverse, inl, inr, refl, ap, ◌∙◌, length-append, arith}
use Rattle.std.specs.List.{after_last, suffix_len, prefix_len}
use Rattle.std.proofs.lemmas.Bool.{cond-false, eqb-true}
use Rattle.std.proofs.lemmas.List.{reverse-append}
use Rattle.std.proofs.lemmas.List.Folds.{prefix_len-append}
use Rattle.std.proofs.lemmas.List.Sums.{suffix_len-le-length, sum_by-append}
use Rattle.std.proofs.Math.Seq.{take-append-add, drop-append-add}
use Rattle.elasticlunr_error.specs.Text.{Bytes}
use Rattle.elasticlunr_job_format.specs.LineRead.{AreWhole}
use Rattle.elasticlunr_json_place.specs.Places.{column_at, line_at, place_at, is_first, is_line_feed}
use Rattle.elasticlunr_json_place.specs.Whole.{below}
use Rattle.elasticlunr_json_place.specs.declared.place.Place.{Place}

stop_at_end : {X : Type 0} (q : X → Bool) (xs ys : List X) (b : Bool) → prefix_len q (reverse xs) ≡ 0
    → eqb (prefix_len q (reverse ys)) (length (reverse ys)) ≡ b
    → cond b (length (reverse ys) + prefix_len q (reverse xs)) (prefix_len q (reverse ys)) ≡ prefix_len q (reverse ys)
stop_at_end q xs ys true none all = omega (arith, eqb-true (prefix_len q (reverse ys)) (length (reverse ys)) all, none)
stop_at_end q xs ys false none all = refl

suffix_whole : (q : ℕ → Bool) (front more : Bytes) (y : ℕ) → q y ≡ false → suffix_len q ((front ++ y ∷ []) ++ more)
    ≡ suffix_len q more
suffix_whole q front more y stop =
    let none : prefix_len q (reverse (front ++ y ∷ [])) ≡ 0 = ap (prefix_len q) (reverse-append front (y ∷ []))
    ∙ cond-false (q y) _ 0 stop in
    ap (prefix_len q) (reverse-append (front ++ y ∷ []) more)
    ∙ (prefix_len-append q (reverse more) (reverse (front ++ y ∷ []))
    ∙ stop_at_end q (front ++ y ∷ []) more (eqb (prefix_len q (reverse more)) (length (reverse more))) none refl)

after_front : (p : ℕ → Bool) (front more : Bytes) (y : ℕ) → p y ≡ true → after_last p ((front ++ y ∷ []) ++ more)
    ≡ after_last p more
after_front p front more y cut =
    let xs = front ++ y ∷ [] in
    let rest = length more - suffix_len (λ x. not (p x)) more in
    let at : length (xs ++ more) - suffix_len (λ x. not (p x)) (xs ++ more) ≡ length xs + rest =
    omega (
      arith,
      length-append xs more,
      suffix_whole (λ x. not (p x)) front more y (ap not cut),
      suffix_len-le-length
          (λ x. not (p x)) more,
    ) in
    ap (λ n. drop n (xs ++ more)) at ∙ drop-append-add xs more rest

-- nothing of the last line stands in it
pub after_whole : (text more : Bytes) → AreWhole text → after_last is_line_feed (text ++ more)
    ≡ after_last is_line_feed more
after_whole text more whole = elim whole [
  | inl none ↦ ap (λ t. after_last is_line_feed (t ++ more)) none
  | inr f ↦ ap (λ t. after_last is_line_feed (t ++ more)) f.1 ∙ after_front is_line_feed f.0 more 10 refl
]

feeds_append : (text more : Bytes) → count_by is_line_feed (text ++ more)
    ≡ count_by is_line_feed text + count_by is_line_feed more
feeds_append text more = sum_by-append (λ b. cond (is_line_feed b) 1 0) text more

-- a place after whole lines is so many lines below
pub place_below : (text more : Bytes) (offset : ℕ) → AreWhole text → place_at (text ++ more) (length text + offset)
    ≡ below (count_by is_line_feed text) (place_at more offset)
place_below text more offset whole =
    let part = take-append-add text more offset in
    let line : line_at (text ++ more) (length text + offset) ≡ count_by is_line_feed text + line_at more offset =
    ap (λ t. 1 + count_by is_line_feed t) part ∙ omega (arith, feeds_append text (take offset more)) in
    let column : column_at (text ++ more) (length text + offset) ≡ column_at more offset =
    ap (λ t. 1 + count_by is_first (after_last is_line_feed t)) part
    ∙ ap (λ t. 1 + count_by is_first t) (after_whole text (take offset more) whole) in
    let at : ℕ → ℕ → Place = λ l c. record { line = l; column = c } in
    ap (λ l. at l (column_at (text ++ more) (length text + offset))) line
    ∙ ap (at (count_by is_line_feed text + line_at more offset)) column
