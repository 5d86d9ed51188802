-- On a value that stands in a line between other lines.
use Rattle.std.proofs.Common.{◌≡◌, ◌≢◌, ◌==◌, ◌<◌, ◌≤◌, ◌+◌, ◌-◌, ◌&&◌, ◌⊎◌, ltb, ℕ, zero, suc, List, [], ◌∷◌, ◌++◌}
use Rattle.std.proofs.Common.{length, take, drop, All, Bool, true, false, codes, Some, None, option_and_then, count_by}
use Rattle.std.proofs.Common.{inl, inr, zero-add, length-drop, if◌then◌else◌, slice_get, slice_range, refl, sym, ap}
use Rattle.std.proofs.Common.{◌∙◌, append_assoc, append-nil, arith}
use Rattle.std.specs.List.{after_last, filter}
use Rattle.std.proofs.lemmas.Option.{slice_get_within}
use Rattle.serde_json.specs.Data.{Data, null, boolean}
use borrow.Author.Tests.{ltb-true, ltb-false, ne_eqb}
use Rattle.std.proofs.lemmas.Bool.{cond-true}
use Rattle.std.proofs.lemmas.List.{take-append-le, drop-append-le, drop_all, take_all}
use Rattle.std.proofs.lemmas.List.Elements.{All-append, All-drop, All-from_recursion, All-take, All-weaker}
use Rattle.std.proofs.lemmas.List.Folds.{list_all-append}
use Rattle.std.proofs.lemmas.List.Splits.{slice_split_at, slice_split_none}
use Rattle.std.proofs.Math.Seq.{take-append-add, drop-append-add}
use Rattle.elasticlunr_error.specs.Text.{Bytes}
use Rattle.elasticlunr_job_format.specs.Reading.{reading}
use Rattle.elasticlunr_job_format.specs.Lines.{filled_lines, is_blank, is_filled, is_space, lines_of}
use Rattle.elasticlunr_json_place.specs.Members.{Move, follow, part_of, value_at, with_word, IsPlaceOf, StandsAt}
use Rattle.elasticlunr_json_place.specs.Places.{is_first, is_line_feed, place_at}
use Rattle.elasticlunr_json_place.specs.Whole.{below}
use Rattle.elasticlunr_job_format.specs.LineRead.{AreWhole, EndsLine, HasNoFeed}
use Rattle.elasticlunr_json_place.specs.declared.place.Place.{Place}
use Rattle.elasticlunr_job_format.proofs.WholeLines.{filled_append}
use Rattle.elasticlunr_json_place.proofs.WholeLines.{place_below}

keep_first : (line : Bytes) (lines : List Bytes) → is_filled line ≡ true → filter is_filled (line ∷ lines) ≡ line
    ∷ filter is_filled lines
keep_first line lines filled = cond-true (is_filled line) (line ∷ filter is_filled lines) (filter is_filled lines)
    filled

pub place_front : (line rest : Bytes) (offset : ℕ) → offset ≤ length line → place_at (line ++ rest) offset
    ≡ place_at line offset
place_front line rest offset fits =
    let of_bytes : Bytes → Place = λ t. record {
      line = 1 + count_by is_line_feed t;
      column = 1 + count_by is_first
          (after_last is_line_feed t);
    } in
    ap of_bytes (take-append-le offset line rest fits)

no_cut : (line : Bytes) → HasNoFeed line → All (λ b. (b == 10) ≡ false) line
no_cut line none = All-weaker (λ b. b ≢ 10) (λ b. (b == 10) ≡ false) (λ b other. ne_eqb b 10 other) line none

-- it is the first of the lines that begin with it
first_line : (line rest : Bytes) → HasNoFeed line → is_filled line ≡ true → EndsLine rest → (more : List Bytes)
    × (filled_lines (line ++ rest) ≡ line ∷ more)
first_line line rest none filled ends = elim ends [
  | inl no_rest ↦ (
    [],
    ap (λ r. filled_lines (line ++ r)) no_rest
        ∙ (ap filled_lines (append-nil line) ∙
        (ap (filter is_filled) (slice_split_none (λ b. b == 10) line (no_cut line none)) ∙ keep_first line [] filled)),
  )
  | inr f ↦ (
    filter is_filled (lines_of f.0),
    ap (λ r. filled_lines (line ++ r)) f.1 ∙
        (ap (filter is_filled) (slice_split_at (λ b. b == 10) line 10 f.0 (no_cut line none) refl)
        ∙ keep_first line (lines_of f.0) filled),
  )
]

get_behind : (before : List Bytes) (line : Bytes) (more : List Bytes)
    → slice_get (before ++ line ∷ more) (length before) ≡ Some line
get_behind [] line more = refl
get_behind (b ∷ before) line more = get_behind before line more

module _ (text rest : Bytes) (whole : AreWhole text) (ends : EndsLine rest) where
  -- it is the next of the lines that are not blank
  pub part_behind : (line : Bytes) → HasNoFeed line → is_filled line ≡ true
      → part_of (Some (length (filled_lines text))) (text ++ (line ++ rest)) ≡ Some line
  part_behind line none filled =
      let first = first_line line rest none filled ends in
      ap (λ ls. slice_get ls (length (filled_lines text))) (filled_append text (line ++ rest) whole
      ∙ ap (λ ls. filled_lines text ++ ls) first.1) ∙ get_behind (filled_lines text) line first.0

  -- a path leads to in it what it leads to in the line alone
  pub value_behind : (path : List Move) (line : Bytes) → HasNoFeed line → is_filled line ≡ true
      → value_at (Some (length (filled_lines text))) path (text ++ (line ++ rest))
      ≡ option_and_then (follow path) (reading line)
  value_behind path line none filled = ap (λ part. option_and_then (follow path) (option_and_then reading part))
      (part_behind line none filled)

with_behind : (text line rest word : Bytes) (start end : ℕ) → start ≤ length line → end ≤ length line
    → with_word (text ++ (line ++ rest)) (length text + start) (length text + end) word
    ≡ text ++ (with_word line start end word ++ rest)
with_behind text line rest word start end first last =
    let front : take (length text + start) (text ++ (line ++ rest)) ≡ text ++ take start line = take-append-add text
    (line ++ rest) start ∙ ap (λ bs. text ++ bs) (take-append-le start line rest first) in
    let back : drop (length text + end) (text ++ (line ++ rest))
    ≡ drop end line ++ rest = drop-append-add text (line ++ rest) end ∙ drop-append-le end line rest last in
    ap (λ bs. bs ++ word ++ drop (length text + end) (text ++ (line ++ rest))) front
    ∙ (ap (λ bs. (text ++ take start line) ++ word ++ bs) back ∙ simp append_assoc)

none_with : (line word : Bytes) (start end : ℕ) → HasNoFeed line → HasNoFeed word
    → HasNoFeed (with_word line start end word)
none_with line word start end none also =
    let P = λ (b : ℕ). b ≢ 10 in
    All-append P (take start line ++ word) (drop end line)
    (All-append P (take start line) word (All-take P start line none) also) (All-drop P end line none)

blank_none : (x y : Bool) → ((x && false) && y) ≡ false
blank_none true y = refl
blank_none false y = refl

filled_with : (line word : Bytes) (start end : ℕ) → is_blank word ≡ false → is_filled (with_word line start end word)
    ≡ true
filled_with line word start end filled =
    let front = take start line in
    let back = drop end line in
    let blank : is_blank (front ++ word ++ back) ≡ false =
    list_all-append is_space (front ++ word) back
    ∙ (ap (λ b. b && is_blank back) (list_all-append is_space front word ∙ ap (λ b. is_blank front && b) filled)
    ∙ blank_none (is_blank front) (is_blank back)) in
    ap (λ b. if b then false else true) blank

get_in : (xs ys : Bytes) (i : ℕ) → slice_get (xs ++ ys) (length xs + i) ≡ slice_get ys i
get_in [] ys i = ap (slice_get ys) (zero-add i)
get_in (x ∷ xs) ys i = let next : length (x ∷ xs) + i
    ≡ suc (length xs + i) = omega arith in ap (slice_get (x ∷ (xs ++ ys))) next ∙ get_in xs ys i

get_front : (xs ys : Bytes) (i b : ℕ) → slice_get xs i ≡ Some b → slice_get (xs ++ ys) i ≡ Some b
get_front [] ys i b is = absurd (cc)
get_front (x ∷ xs) ys zero b is = is
get_front (x ∷ xs) ys (suc i) b is = get_front xs ys i b is

range_behind : (text line rest : Bytes) (start end : ℕ) → start ≤ length line → end ≤ length line
    → slice_range (text ++ (line ++ rest)) (length text + start) (length text + end) ≡ slice_range line start end
range_behind text line rest start end first last =
    let back : drop (length text + start) (text ++ (line ++ rest)) ≡ drop start line ++ rest = drop-append-add text
    (line ++ rest) start ∙ drop-append-le start line rest first in
    let many : (length text + end) - (length text + start) ≡ end - start = omega arith in
    ap (λ n. take n (drop (length text + start) (text ++ (line ++ rest)))) many
    ∙ (ap (take (end - start)) back ∙ take-append-le (end - start) (drop start line) rest
    (omega (arith, length-drop start line)))

-- the end of what stands there is in the line
within : (path : List Move) (line : Bytes) (start end : ℕ) → start ≤ length line → length line ≤ end
    → StandsAt None path line start end → StandsAt None path line start (length line)
within path line start end first past stands =
    let none : drop end line ≡ drop (length line) line = drop_all end line past
    ∙ sym (drop_all (length line) line (omega arith)) in
    let same : slice_range line start end ≡ slice_range line start (length line) =
    take_all (end - start) (drop start line) (omega (arith, length-drop start line))
    ∙ sym (take_all (length line - start) (drop start line) (omega (arith, length-drop start line))) in
    let value = stands.has_value in
    record {
      first = stands.first;
      there = stands.there;
      no_space = stands.no_space;
      has_value = (value.0, value.1, ap reading (sym same) ∙ value.2);
      gives_null = ap (λ bs. value_at None path (take start line ++ codes "null" ++ bs)) (sym none) ∙ stands.gives_null;
      gives_true = ap (λ bs. value_at None path (take start line ++ codes "true" ++ bs)) (sym none) ∙ stands.gives_true;
    }

module _ (text line rest : Bytes) (whole : AreWhole text) (none : HasNoFeed line) (filled : is_filled line ≡ true)
    (ends : EndsLine rest) (path : List Move) (start end : ℕ) (first : start ≤ length line) (last : end ≤ length line)
  where
    word_behind : (word : Bytes) (d : Data) → HasNoFeed word → is_blank word ≡ false
        → value_at None path (with_word line start end word) ≡ Some d
        → value_at (Some (length (filled_lines text))) path (with_word (text ++ (line ++ rest)) (length text + start)
        (length text + end) word) ≡ Some d
    word_behind word d also no_blank is =
        ap (value_at (Some (length (filled_lines text))) path) (with_behind text line rest word start end first last)
        ∙ (value_behind text rest whole ends path (with_word line start end word)
        (none_with line word start end none also) (filled_with line word start end no_blank) ∙ is)

    stands_behind : StandsAt None path line start end → StandsAt (Some (length (filled_lines text))) path
        (text ++ (line ++ rest)) (length text + start) (length text + end)
    stands_behind stands =
        let value = stands.has_value in
        record {
          first = stands.first;
          there = get_in text (line ++ rest) start ∙ get_front line rest start stands.first stands.there;
          no_space = stands.no_space;
          has_value = (
            value.0,
            value_behind text rest whole ends path line none filled
                ∙ value.1,
            ap reading (range_behind text line rest start end first last) ∙ value.2,
          );
          gives_null = word_behind (codes "null") null
              (All-from_recursion (λ b. b ≢ 10) (codes "null")
              ((λ e. omega arith), ((λ e. omega arith), ((λ e. omega arith), ((λ e. omega arith), tt))))) refl
              stands.gives_null;
          gives_true = word_behind (codes "true") (boolean true)
              (All-from_recursion (λ b. b ≢ 10) (codes "true")
              ((λ e. omega arith), ((λ e. omega arith), ((λ e. omega arith), ((λ e. omega arith), tt))))) refl
              stands.gives_true;
        }

fits_or_not : (a b : ℕ) (t : Bool) → ltb a b ≡ t → (b ≤ a) ⊎ (a < b)
fits_or_not a b true is = inr (ltb-true a b is)
fits_or_not a b false is = inl (ltb-false a b is)

-- the place of a value in a line is so many lines below in the text
pub place_behind : (text line rest : Bytes) → AreWhole text → HasNoFeed line → is_filled line ≡ true → EndsLine rest
    → (path : List Move) (place : Place)
    → IsPlaceOf None path line place → IsPlaceOf (Some (length (filled_lines text))) path (text ++ (line ++ rest))
    (below (count_by is_line_feed text) place)
place_behind text line rest whole none filled ends path place is =
    let start = is.0 in
    let end = is.1 in
    let first : start < length line = slice_get_within line start is.2.first is.2.there in
    let at : place_at (text ++ (line ++ rest)) (length text + start) ≡ below (count_by is_line_feed text) place =
    place_below text (line ++ rest) start whole
    ∙ ap (below (count_by is_line_feed text)) (place_front line rest start (omega arith) ∙ sym is.3) in
    elim (fits_or_not (length line) end (ltb (length line) end) refl) [
      | inl within_line ↦ (
        length text + start,
        length text + end,
        stands_behind text line rest whole none filled ends
            path start end (omega arith) within_line is.2,
        sym at,
      )
      | inr past ↦ (
        length text + start,
        length text + length line,
        stands_behind text line rest whole none filled ends path start (length line) (omega arith) (omega arith)
            (within path line start end (omega arith) (omega arith) is.2),
        sym at,
      )
    ]
