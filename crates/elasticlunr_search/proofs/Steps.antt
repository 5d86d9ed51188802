-- One more token.
use Rattle.std.proofs.Common.{◌≡◌, ℕ, suc, ◌+◌, ◌<◌, ◌≤◌, Bool, true, false, List, [], ◌∷◌, ◌||◌, ◌&&◌, length, map}
use Rattle.std.proofs.Common.{take, get_or, bytes_eq, refl, sym, ap, ◌∙◌, String, Global, string_bytes, cond, arith}
use Rattle.std.specs.List.{list_any, list_all, filter}
use Rattle.std.specs.Str.{chars}
use Rattle.std.proofs.Math.Bool.{and_assoc, and_comm}
use Rattle.std.proofs.lemmas.List.{get_or-map, length-map, take_all}
use Rattle.std.proofs.lemmas.List.Folds.{list_any_more, list_all_more}
use Rattle.std.proofs.lemmas.Map.Views.{any-filter_same}
use Rattle.std.proofs.lemmas.Slice.Eq.{bytes_eq-Decides}
use Rattle.elasticlunr_text.specs.Text.{Text, Bytes, text_of, texts_of, is_listed}

-- the text at a place
at_place : (ss : List (String Global)) (i : ℕ) (s : String Global) (bs : Bytes) → i < length ss → s ≡ get_or ss i s → bs
    ≡ string_bytes s
    → get_or (texts_of ss) i (chars bs) ≡ chars bs
at_place ss i s bs lt at is = get_or-map text_of ss i s (chars bs) lt ∙ ap text_of (sym at) ∙ ap chars (sym is)

inside : (ss : List (String Global)) (i : ℕ) → i < length ss → i < length (texts_of ss)
inside ss i lt = omega (arith, length-map ss text_of, lt)

pub step_any : (has : Text → Bool) (ss : List (String Global)) (i : ℕ) (s : String Global) (bs : Bytes)
    (now here next : Bool)
    → i < length ss → s ≡ get_or ss i s → bs ≡ string_bytes s
    → next ≡ (now || here) → now ≡ list_any has (take i (texts_of ss)) → here ≡ has (chars bs) → next
    ≡ list_any has (take (i + 1) (texts_of ss))
step_any has ss i s bs now here next lt at is either before found =
    either ∙ (λ j. before j || (found ∙ ap has (sym (at_place ss i s bs lt at is))) j)
    ∙ sym (list_any_more has (texts_of ss) i (chars bs) (inside ss i lt))

pub step_all : (has : Text → Bool) (first : String Global) (others ss : List (String Global)) (i : ℕ)
    (s : String Global) (bs : Bytes) (now here next : Bool) → ss ≡ first ∷ others → i < length others → s
    ≡ get_or others i s → bs ≡ string_bytes s
    → next ≡ (here && now) → now ≡ list_all has (take (suc i) (texts_of ss)) → here ≡ has (chars bs) → next
    ≡ list_all has (take (suc (i + 1)) (texts_of ss))
step_all has first others ss i s bs now here next are lt at is both before found =
    let last : list_all has (take (i + 1) (texts_of others))
    ≡ (list_all has (take i (texts_of others)) && has (chars bs)) =
    list_all_more has (texts_of others) i (chars bs) (inside others i lt)
    ∙ ap (λ t. list_all has (take i (texts_of others)) && has t) (at_place others i s bs lt at is) in
    both ∙ and_comm here now ∙ (λ j. (before ∙ ap (λ ts. list_all has (take (suc i) (texts_of ts))) are) j && found j)
    ∙ and_assoc (has (text_of first)) (list_all has (take i (texts_of others))) (has (chars bs))
    ∙ ap (λ b. has (text_of first) && b) (sym last) ∙ ap (λ ts. list_all has (take (suc (i + 1)) (texts_of ts)))
    (sym are)

pub all_taken : (has : Text → Bool) (first : String Global) (others ss : List (String Global)) (i : ℕ) → ss ≡ first
    ∷ others
    → length others ≤ i → list_all has (take (suc i) (texts_of ss)) ≡ list_all has (texts_of (first ∷ others))
all_taken has first others ss i are past = ap (λ ts. list_all has (take (suc i) (texts_of ts))) are
    ∙ ap (λ ts. has (text_of first) && list_all has ts)
    (take_all i (texts_of others) (omega (arith, length-map others text_of, past)))

pub no_strings : (ss : List (String Global)) → length ss ≡ 0 → ss ≡ []
no_strings [] e = refl
no_strings (s ∷ ss) e = absurd (omega arith)

-- tests of items and of what is made of them that go together leave the same
pub map-filter : {X Y : Type 0} (f : X → Y) (p : Y → Bool) (q : X → Bool) → ((x : X) → q x ≡ p (f x)) → (xs : List X)
    → map f (filter q xs) ≡ filter p (map f xs)
map-filter f p q same [] = refl
map-filter f p q same (x ∷ xs) = by (q x) ∙ ap (λ b. cond b (f x ∷ map f (filter q xs)) (map f (filter q xs))) (same x)
    ∙ ap (λ ys. cond (p (f x)) (f x ∷ ys) ys) (map-filter f p q same xs) where
      by : (b : Bool) → map f (cond b (x ∷ filter q xs) (filter q xs))
          ≡ cond b (f x ∷ map f (filter q xs)) (map f (filter q xs))
      by true = refl
      by false = refl

-- what is left of a list by a test is listed if it passes and was
pub kept_listed : (p : Bytes → Bool) (r : Bytes) (rs : List Bytes) → is_listed r (filter p rs) ≡ (p r && is_listed r rs)
kept_listed p r rs = any-filter_same (bytes_eq r) p (p r) (λ k e. ap p (sym ((bytes_eq-Decides r k).0 e))) rs
