-- On the place of the first character of a text that passes a test.
use Rattle.std.proofs.Common.{◌≡◌, ℕ, ◌<◌, ◌≤◌, Bool, true, false, ◌==◌, ◌||◌, eqb-true, List, [], ◌∷◌, ◌++◌, length}
use Rattle.std.proofs.Common.{take, drop, Option, Some, None, MatchOption, IfSome, IfNone, encode_utf8, refl, sym, ◌∙◌}
use Rattle.std.proofs.Common.{ap, subst, arith, length-append}
use Rattle.std.specs.List.{list_any, list_all, insert_slice}
use Rattle.std.specs.Char.{len_utf8}
use Rattle.std.specs.Str.{chars, IsUtf8, NoCharPasses, NonePass}
use Rattle.std.specs.Str.Pattern.{FindsBy, MatchBeginsAt}
use Rattle.std.specs.String.Boundary.{IsSplitPoint}
use Rattle.std.proofs.Math.Seq.{take-append_seam, drop-append_seam}
use Rattle.std.proofs.lemmas.List.{take-append-drop, length-drop, length-take}
use Rattle.std.proofs.lemmas.Str.{encodes-chars, encodes_same, IsUtf8-take, IsUtf8-drop, IsUtf8-append, chars-append}
use Rattle.std.proofs.lemmas.Str.{chars_past_char, length-encode, len_utf8_bounds, IsCharBoundary-from_take}
use Rattle.elasticlunr_text.specs.Arabic.{without_first, with_first, is_marked_alef}
use Rattle.elasticlunr_text.specs.FirstAt.{IsFirstAt}
use Rattle.elasticlunr_text.proofs.BasicLemmas.{heads, and_first, and_second}
use Rattle.elasticlunr_text.proofs.FirstLemmas.{without_first-seam, with_first-seam}

none-passes : (test : ℕ → Bool) (cs : List ℕ) → NonePass test cs → list_any test cs ≡ false
none-passes test [] none = refl
none-passes test (c ∷ cs) none = rw none.0 (none-passes test cs none.1)

none-chars : (test : ℕ → Bool) (bs : List ℕ) → IsUtf8 bs → NoCharPasses test bs → list_any test (chars bs) ≡ false
none-chars test bs utf8 (cs, e, none) = ap (list_any test) (encodes_same (chars bs) cs (encodes-chars bs utf8 ∙ sym e))
    ∙ none-passes test cs none

-- what `find` answers of a closure that tests the character
pub IfSome-find : (test : ℕ → Bool) (Answers : (ℕ → Bool) → Type 0) (s : List ℕ) (r : Option ℕ) → IsUtf8 s
    → MatchOption r ((k : ℕ → Bool) → Answers k → FindsBy k s None)
    (MatchBeginsAt (λ m o. (k : ℕ → Bool) → Answers k → FindsBy k m o) s)
    → Answers test → IfSome r (IsFirstAt test s)
IfSome-find test Answers s None utf8 found answers = tt
IfSome-find test Answers s (Some i) utf8 (j, found, le, begins, ends) answers =
    let (none, one) = found test answers in
    record {
      boundary = begins;
      none_before = none-chars test (take i s) (IsUtf8-take s i utf8 begins) none;
      character =
          one.0;
      rest = drop j s;
      split = one.2.split;
      passes = one.1;
    }

pub IfNone-find : (test : ℕ → Bool) (Answers : (ℕ → Bool) → Type 0) (s : List ℕ) (r : Option ℕ) → IsUtf8 s
    → MatchOption r ((k : ℕ → Bool) → Answers k → FindsBy k s None)
    (MatchBeginsAt (λ m o. (k : ℕ → Bool) → Answers k → FindsBy k m o) s)
    → Answers test → IfNone r (list_any test (chars s) ≡ false)
IfNone-find test Answers s None utf8 found answers = none-chars test s utf8 (found test answers)
IfNone-find test Answers s (Some i) utf8 found answers = tt

module _ (test : ℕ → Bool) (m : List ℕ) (place : ℕ) (utf8 : IsUtf8 m) (first : IsFirstAt test m place) where
  front-utf8 : IsUtf8 (take place m)
  front-utf8 = IsUtf8-take m place utf8 first.boundary

  back-utf8 : IsUtf8 (drop place m)
  back-utf8 = IsUtf8-drop m place utf8 first.boundary

  pub IsFirstAt-boundary : IsSplitPoint m place
  IsFirstAt-boundary = (first.boundary.0, λ some. first.boundary.1)

  pub IsFirstAt-within : place < length m
  IsFirstAt-within =
      let whole = ap (λ xs. length xs) first.split ∙ length-append (encode_utf8 first.character) first.rest in
      let wide = (len_utf8_bounds first.character).0 in
      omega (arith, whole, wide, length-encode first.character, length-drop place m, first.boundary.0)

  -- the character that stands there, however it was taken out
  same-rest : (c : ℕ) (rest : List ℕ) → drop place m ≡ encode_utf8 c ++ rest → c ∷ chars rest ≡ first.character
      ∷ chars first.rest
  same-rest c rest e = sym (chars_past_char (drop place m) rest c back-utf8 e)
      ∙ chars_past_char (drop place m) first.rest first.character back-utf8 first.split

  pub IsFirstAt-passes : (c : ℕ) (rest : List ℕ) → drop place m ≡ encode_utf8 c ++ rest → test c ≡ true
  IsFirstAt-passes c rest e = ap test (heads _ _ _ _ (same-rest c rest e)) ∙ first.passes

  chars-parts : (c : ℕ) (rest : List ℕ) → drop place m ≡ encode_utf8 c ++ rest → chars m ≡ chars (take place m) ++ c
      ∷ chars rest
  chars-parts c rest e =
      ap chars (sym (take-append-drop place m)) ∙ chars-append (take place m) (drop place m) front-utf8
      ∙ ap (λ xs. chars (take place m) ++ xs) (chars_past_char (drop place m) rest c back-utf8 e)

  -- the text without that character
  pub chars-removed : (c : ℕ) (rest new : List ℕ) → drop place m ≡ encode_utf8 c ++ rest → new ≡ take place m ++ rest
      → chars new ≡ without_first test (chars m)
  chars-removed c rest new e is =
      ap chars is ∙ chars-append (take place m) rest front-utf8
      ∙ sym (ap (without_first test) (chars-parts c rest e) ∙ without_first-seam test (chars (take place m))
      (chars rest) c first.none_before (IsFirstAt-passes c rest e))

  front-length : length (take place m) ≡ place
  front-length = let within = first.boundary.0 in omega (arith, length-take place m, within)

  -- where the character was, the text may be cut
  pub removed-boundary : (rest new : List ℕ) → IsUtf8 new → new ≡ take place m ++ rest → IsSplitPoint new place
  removed-boundary rest new new_utf8 is =
      let fits : place ≤ length new = omega (
        arith,
        ap (λ xs. length xs) is,
        length-append (take place m) rest,
        front-length,
      ) in
      let cut : take place new ≡ take place m = ap (take place) is
      ∙ ap (λ n. take n (take place m ++ rest)) (sym front-length) ∙ take-append_seam (take place m) rest in
      let boundary = IsCharBoundary-from_take new place new_utf8 fits
      (subst (λ (xs : List ℕ). IsUtf8 xs) (sym cut) front-utf8) in
      (boundary.0, λ some. boundary.1)

  -- and where another character is put in its place
  pub chars-replaced : (c put : ℕ) (rest new whole : List ℕ) → IsUtf8 (encode_utf8 put) → chars (encode_utf8 put) ≡ put
      ∷ [] → drop place m ≡ encode_utf8 c ++ rest → new ≡ take place m ++ rest → whole
      ≡ insert_slice new place (encode_utf8 put)
      → chars whole ≡ with_first test put (chars m)
  chars-replaced c put rest new whole put_utf8 put_chars e is inserted =
      let front : take place new ≡ take place m = ap (take place) is
      ∙ ap (λ n. take n (take place m ++ rest)) (sym front-length) ∙ take-append_seam (take place m) rest in
      let back : drop place new ≡ rest = ap (drop place) is ∙ ap (λ n. drop n (take place m ++ rest)) (sym front-length)
      ∙ drop-append_seam (take place m) rest in
      let parts : whole ≡ (take place m ++ encode_utf8 put) ++ rest = inserted
      ∙ ap (λ xs. (xs ++ encode_utf8 put) ++ drop place new) front
      ∙ ap (λ xs. (take place m ++ encode_utf8 put) ++ xs) back in
      ap chars parts ∙ chars-append (take place m ++ encode_utf8 put) rest
      (IsUtf8-append (take place m) (encode_utf8 put) front-utf8 put_utf8)
      ∙ ap (λ xs. xs ++ chars rest) (chars-append (take place m) (encode_utf8 put) front-utf8
      ∙ ap (λ xs. chars (take place m) ++ xs) put_chars)
      ∙ append_one (chars (take place m)) (chars rest) put
      ∙ sym (ap (with_first test put) (chars-parts c rest e) ∙ with_first-seam test (chars (take place m)) (chars rest)
      c put first.none_before (IsFirstAt-passes c rest e))
    where
      append_one : (xs ys : List ℕ) (z : ℕ) → (xs ++ z ∷ []) ++ ys ≡ xs ++ z ∷ ys
      append_one [] ys z = refl
      append_one (x ∷ xs) ys z = ap (λ zs. x ∷ zs) (append_one xs ys z)

-- a character of a list each of which takes as many bytes
one-length : (xs : List ℕ) (n : ℕ) → list_all (λ x. len_utf8 x == n) xs ≡ true → (c : ℕ) → list_any (λ x. c == x) xs
    ≡ true → len_utf8 c ≡ n
one-length [] n all c any = absurd (cc)
one-length (x ∷ xs) n all c any = either (one-length xs n (and_second _ _ all) c) (c == x) refl any
  where
    either : (list_any (λ y. c == y) xs ≡ true → len_utf8 c ≡ n) → (b : Bool) → (c == x) ≡ b
        → b || list_any (λ y. c == y) xs ≡ true → len_utf8 c ≡ n
    either rest true e any = ap len_utf8 (eqb-true c x e) ∙ eqb-true (len_utf8 x) n (and_first _ _ all)
    either rest false e any = rest any

-- a marked alef takes two bytes
pub length-marked_alef : (c : ℕ) → is_marked_alef c ≡ true → length (encode_utf8 c) ≡ 2
length-marked_alef c is = length-encode c ∙ one-length (0x622 ∷ 0x623 ∷ 0x625 ∷ 0x671 ∷ 0x649 ∷ []) 2 refl c is
