-- Names that are listed, and the last of them.
use Rattle.std.proofs.Common.{◌≡◌, ◌<◌, ◌≤◌, ◌-◌, ℕ, zero, suc, Bool, true, false, true≢false, not, ◌||◌, ◌&&◌, List, [], ◌∷◌, ◌++◌}
use Rattle.std.proofs.Common.{length, take, drop, get_or, Bor, bytes_eq, refl, sym, ap, subst, ◌∙◌, arith}
use Rattle.std.specs.List.{list_any}
use Rattle.std.specs.Bool.{one_answer}
use Rattle.std.proofs.lemmas.Slice.Eq.{bytes_eq-Decides}
use Rattle.elasticlunr_publish.specs.Names.{Bytes}
use Rattle.std.proofs.Common.{inl, Option, Some, Result, Ok, Err}
use Rattle.std.specs.Prelude.{IfOk}
use Rattle.std.proofs.lemmas.List.{take-append-drop}
use Rattle.elasticlunr_publish.specs.Heads.{AreHeads, AreKept, ends_with, followed_by, is_listed, last_of, told_texts}

or_assoc : (a b c : Bool) → (a || (b || c)) ≡ ((a || b) || c)
or_assoc true b c = refl
or_assoc false b c = refl

pub or_false : (a : Bool) → (a || false) ≡ a
or_false true = refl
or_false false = refl

pub eq_sym : (x y : Bytes) → bytes_eq x y ≡ bytes_eq y x
eq_sym x y = one_answer (bytes_eq x y) (bytes_eq y x) (bytes_eq-Decides x y)
    ((λ e. sym ((bytes_eq-Decides y x).0 e)), (λ e. (bytes_eq-Decides y x).1 (sym e)))

pub contained : (x : Bytes) (ys : List (Bor Bytes))
    → list_any (λ y. bytes_eq y.now x) ys ≡ is_listed x (told_texts ys)
contained x [] = refl
contained x (y ∷ ys) = ap (λ b. b || list_any (λ z. bytes_eq z.now x) ys) (eq_sym y.now x)
    ∙ ap (λ b. bytes_eq x y.now || b) (contained x ys)

last_at : (x : Bytes) (ys : List (Bor Bytes)) (d : Bor Bytes) (n : ℕ) → length ys ≡ suc n
    → ends_with x (told_texts ys) ≡ bytes_eq x (get_or ys n d).now
last_at x [] d n h = absurd (omega (arith, h))
last_at x (y ∷ []) d zero h = refl
last_at x (y ∷ []) d (suc n) h = absurd (omega (arith, h))
last_at x (y ∷ z ∷ zs) d zero h = absurd (omega (arith, h))
last_at x (y ∷ z ∷ zs) d (suc n) h = last_at x (z ∷ zs) d n (omega (arith, h))

pub last_is : (x : Bytes) (ys : List (Bor Bytes)) (d : Bor Bytes) → 0 < length ys
    → ends_with x (told_texts ys) ≡ bytes_eq x (get_or ys (length ys - 1) d).now
last_is x ys d h = last_at x ys d (length ys - 1) (omega (arith, h))

pub listed_append : (x : Bytes) (ys zs : List Bytes)
    → is_listed x (ys ++ zs) ≡ (is_listed x ys || is_listed x zs)
listed_append x [] zs = refl
listed_append x (y ∷ ys) zs = ap (λ b. bytes_eq x y || b) (listed_append x ys zs)
    ∙ or_assoc (bytes_eq x y) (is_listed x ys) (is_listed x zs)

told_append : (ys zs : List (Bor Bytes)) → told_texts (ys ++ zs) ≡ told_texts ys ++ told_texts zs
told_append [] zs = refl
told_append (y ∷ ys) zs = ap (λ it. y.now ∷ it) (told_append ys zs)

-- a name that is no other, or isn't kept either
not_kept : (other name : Bytes) (kept : List Bytes) → is_listed name kept ≡ false
    → (b : Bool) → bytes_eq other name ≡ b → b ≡ (b && not (is_listed other kept))
not_kept other name kept h false e = refl
not_kept other name kept h true e = sym (ap not (ap (λ it. is_listed it kept)
    ((bytes_eq-Decides other name).0 e) ∙ h))

pub pushed : (other : Bytes) (name : Bor Bytes) (kept : List Bytes) (old : List (Bor Bytes))
    → is_listed name.now kept ≡ false → is_listed other (told_texts (old ++ name ∷ []))
    ≡ (is_listed other (told_texts old) || (bytes_eq other name.now && not (is_listed other kept)))
pushed other name kept old h = ap (is_listed other) (told_append old (name ∷ []))
    ∙ (listed_append other (told_texts old) (name.now ∷ [])
    ∙ ap (λ b. is_listed other (told_texts old) || b) (or_false (bytes_eq other name.now)
    ∙ not_kept other name.now kept h (bytes_eq other name.now) refl))

told_take : (n : ℕ) (ys : List (Bor Bytes)) → told_texts (take n ys) ≡ take n (told_texts ys)
told_take zero ys = refl
told_take (suc n) [] = refl
told_take (suc n) (y ∷ ys) = ap (λ it. y.now ∷ it) (told_take n ys)

told_drop : (n : ℕ) (ys : List (Bor Bytes)) → told_texts (drop n ys) ≡ drop n (told_texts ys)
told_drop zero ys = refl
told_drop (suc n) [] = refl
told_drop (suc n) (y ∷ ys) = told_drop n ys

told_length : (ys : List (Bor Bytes)) → length (told_texts ys) ≡ length ys
told_length [] = refl
told_length (y ∷ ys) = ap suc (told_length ys)

-- one name more before those that are no such name
pub before_it : (x : Bytes) (ys : List (Bor Bytes)) (d : Bor Bytes) (m : ℕ) → m < length ys
    → is_listed x (drop (suc m) (told_texts ys)) ≡ false → bytes_eq x (get_or ys m d).now ≡ false
    → is_listed x (drop m (told_texts ys)) ≡ false
before_it x [] d m h none differs = absurd (omega (arith, h))
before_it x (y ∷ ys) d zero h none differs = ap (λ b. b || is_listed x (told_texts ys)) differs ∙ none
before_it x (y ∷ ys) d (suc m) h none differs = before_it x ys d m (omega (arith, h)) none differs

pub ends_at : (x : Bytes) (ys : List (Bor Bytes)) (d : Bor Bytes) (m : ℕ) → m < length ys
    → bytes_eq x (get_or ys m d).now ≡ true → ends_with x (take (suc m) (told_texts ys)) ≡ true
ends_at x [] d m h same = absurd (omega (arith, h))
ends_at x (y ∷ ys) d zero h same = same
ends_at x (y ∷ []) d (suc m) h same = absurd (omega (arith, h))
ends_at x (y ∷ z ∷ zs) d (suc m) h same = ends_at x (z ∷ zs) d m (omega (arith, h)) same

pub before_its : (x : Bytes) (ys : List (Bor Bytes)) (d : Bor Bytes) (n : ℕ) → 0 < n → n ≤ length ys
    → is_listed x (drop n (told_texts ys)) ≡ false → bytes_eq x (get_or ys (n - 1) d).now ≡ false
    → is_listed x (drop (n - 1) (told_texts ys)) ≡ false
before_its x ys d zero some h none differs = absurd (omega (arith, some))
before_its x ys d (suc m) some h none differs =
    let e : suc m - 1 ≡ m = omega arith in
    subst (λ k. is_listed x (drop k (told_texts ys)) ≡ false) (sym e) (before_it x ys d m
    (omega (arith, h)) none (subst (λ k. bytes_eq x (get_or ys k d).now ≡ false) e differs))

pub ends_its : (x : Bytes) (ys : List (Bor Bytes)) (d : Bor Bytes) (n : ℕ) → n ≤ length ys
    → bytes_eq x (get_or ys (n - 1) d).now ≡ true → 0 < n → ends_with x (take n (told_texts ys)) ≡ true
ends_its x ys d zero h same some = absurd (omega (arith, some))
ends_its x ys d (suc m) h same some =
    let e : suc m - 1 ≡ m = omega arith in ends_at x ys d m (omega (arith, h))
    (subst (λ k. bytes_eq x (get_or ys k d).now ≡ true) e same)

pub not_so : (r b : Bool) → r ≡ not b → r ≡ true → b ≡ false
not_so r false e h = refl
not_so r true e h = absurd (true≢false (sym h ∙ e))

pub so : (r b : Bool) → r ≡ not b → r ≡ false → b ≡ true
so r true e h = refl
so r false e h = absurd (true≢false (sym e ∙ h))

take_all : {A : Type 0} (xs : List A) → take (length xs) xs ≡ xs
take_all [] = refl
take_all (x ∷ xs) = ap (λ it. x ∷ it) (take_all xs)

nothing_taken : {A : Type 0} (n : ℕ) → take {A = A} n [] ≡ []
nothing_taken zero = refl
nothing_taken (suc n) = refl

pub all_after : {A : Type 0} (n : ℕ) (xs : List A) → take (length xs - n) (drop n xs) ≡ drop n xs
all_after zero xs = let e : length xs - 0 ≡ length xs = omega arith in
    ap (λ n. take n xs) e ∙ take_all xs
all_after (suc n) [] = nothing_taken (0 - suc n)
all_after (suc n) (x ∷ xs) = let e : suc (length xs) - suc n ≡ length xs - n = omega arith in
    ap (λ m. take m (drop n xs)) e ∙ all_after n xs

pub ok_map : {A E : Type 0} (r : Result A E) {P Q : A → Type 0} → ((a : A) → P a → Q a)
    → IfOk r P → IfOk r Q
ok_map (Ok a) f p = f a p
ok_map (Err e) f p = tt

-- the names up to the last place of one
pub found : (recorded : List (Bor Bytes)) (current : Bytes) (end : ℕ) → 0 < end
    → (0 < end → ends_with current (take end (told_texts recorded)) ≡ true)
    → is_listed current (drop end (told_texts recorded)) ≡ false
    → (heads : List (Bor Bytes)) → heads ≡ take end recorded
    → AreHeads (told_texts recorded) (Some current) (told_texts heads)
found recorded current zero some ends none heads is = absurd (omega (arith, some))
found recorded current (suc n) some ends none heads is = inl (record {
  rest = drop (suc n) (told_texts recorded);
  split = sym (take-append-drop (suc n) (told_texts recorded))
      ∙ ap (λ it. it ++ drop (suc n) (told_texts recorded)) (sym (told_take (suc n) recorded) ∙ ap told_texts (sym is));
  ends = ap (ends_with current) (ap told_texts is ∙ told_take (suc n) recorded) ∙ ends some;
  none = none;
})

-- the last of the heads, with the new one
pub kept : (recorded : List Bytes) (current : Option Bytes) (new : Bytes) (keep first : ℕ)
    (heads followed copies : List (Bor Bytes)) → AreHeads recorded current (told_texts heads)
    → told_texts followed ≡ followed_by (told_texts heads) new
    → first ≡ length followed - keep → copies ≡ drop first followed
    → AreKept recorded current new keep (told_texts copies)
kept recorded current new keep first heads followed copies are follows begin is = (
  told_texts heads,
  are,
  ap told_texts is ∙ (told_drop first followed
      ∙ (ap (λ n. drop n (told_texts followed)) (begin ∙ ap (λ n. n - keep) (sym (told_length followed)))
      ∙ ap (last_of keep) follows)),
)
