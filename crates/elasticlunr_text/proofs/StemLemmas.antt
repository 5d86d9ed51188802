-- The stem of a word, from its steps.
use Rattle.std.proofs.Common.{◌≡◌, ◌≢◌, ℕ, ◌+◌, ◌<◌, ◌≤◌, true, false, List, [], ◌∷◌, ◌++◌, inl, inr, refl, sym, ap}
use Rattle.std.proofs.Common.{◌∙◌, subst₂, arith, length, get_or, chars, IsUtf8, encode_utf8_all, encode_utf8}
use Rattle.std.proofs.Common.{slice_get, lit<, Bool, None, true≢false, MatchBool}
use Rattle.std.specs.Str.Pattern.{HasPrefixMatch, FindsCharPrefix}
use Rattle.std.proofs.lemmas.Str.Pattern.{starts_char}
use Rattle.std.proofs.lemmas.Str.{encodes-chars, chars-append, chars-IsAscii, IsUtf8-from_ascii, encode_ascii}
use Rattle.elasticlunr_text.specs.Stems.{Steps, Stem}
use Rattle.elasticlunr_text.proofs.EndingLemmas.{IsAscii-all}
use Rattle.elasticlunr_text.proofs.KeepLemmas.{width, Keeps, Keeps-Steps}

pub width-chars : (bs : List ℕ) → IsUtf8 bs → width (chars bs) ≡ length bs
width-chars bs u = ap (λ t. length t) (encodes-chars bs u)

pub first_y : (w : List ℕ) → 0 < length w → get_or w 0 0 ≡ 121 → (t : List ℕ) × (chars w ≡ 121 ∷ t)
first_y [] pos e = absurd (omega arith)
first_y (b ∷ bs) pos e =
    let a = IsAscii-all (121 ∷ []) refl in (
      chars bs,
      ap (λ d. chars (d ∷ bs)) e ∙ chars-append (121 ∷ []) bs (IsUtf8-from_ascii (121 ∷ []) a)
          ∙ ap (λ t. t ++ chars bs) (chars-IsAscii (121 ∷ []) a),
    )

pub first_not_y : (w t : List ℕ) → IsUtf8 w → ¬ (get_or w 0 0 ≡ 121) → chars w ≢ 121 ∷ t
first_not_y w t u h e =
    let k : w ≡ encode_utf8 121 ++ encode_utf8_all t = sym (encodes-chars w u) ∙ ap (λ z. encode_utf8_all z) e in
    let m = ap (λ z. z ++ encode_utf8_all t) (encode_ascii 121 (lit< tt)) in
    h (ap (λ z. get_or z 0 0) (k ∙ m))

width-ascii : (c : ℕ) (x : List ℕ) → c < 128 → width (c ∷ x) ≡ 1 + width x
width-ascii c x lt = ap (λ z. length (z ++ encode_utf8_all x)) (encode_ascii c lt) ∙ omega arith

-- what `stem` promises
pub record IsStemOf (w v : List ℕ) : Type 0 where
  pub stem : Stem w v
  pub bound : width v ≤ width w
  pub first : slice_get v 0 ≡ slice_get w 0

pub stem-short : (w : List ℕ) → width w < 3 → Stem w w
stem-short w h = inl (h, refl)

pub stem-with_y : (w a b v t : List ℕ) → 3 ≤ width w → w ≡ 121 ∷ t
    → ((c : ℕ) (rest : List ℕ) → w ≡ c ∷ rest → a ≡ 89 ∷ rest) → Steps a b
    → ((c : ℕ) (rest : List ℕ) → b ≡ c ∷ rest → v ≡ 121 ∷ rest) → IsStemOf w v
stem-with_y w a b v t long y set steps back =
    let e₁ = set 121 t y in
    let k = Keeps-Steps a b steps in
    let p = k.first 89 t e₁ in
    let e₃ = back 89 p.0 p.1 in
    let run : Steps (89 ∷ t) (89 ∷ p.0) = subst₂ (λ (x z : List ℕ). Steps x z) e₁ p.1 steps in
    record {
      stem = inr (long, inl (t, p.0, y, run, e₃));
      bound = omega (
        arith,
        k.bound,
        ap (λ z. width z) e₁,
        ap (λ z. width z) p.1,
        ap (λ z. width z) e₃,
        ap (λ z. width z) y,
        width-ascii 89 t (lit< tt),
        width-ascii 89 p.0 (lit< tt),
        width-ascii 121 t (lit< tt),
        width-ascii 121 p.0 (lit< tt),
      );
      first = ap (λ z. slice_get z 0) e₃ ∙ sym (ap (λ z. slice_get z 0) y);
    }

first_kept : (w v : List ℕ) → 3 ≤ width w → Keeps 0 w v → slice_get v 0 ≡ slice_get w 0
first_kept [] v long k = absurd (omega arith)
first_kept (c ∷ x) v long k = let p = k.first c x refl in ap (λ z. slice_get z 0) p.1

pub stem-without_y : (w v : List ℕ) → 3 ≤ width w → ((t : List ℕ) → w ≢ 121 ∷ t) → Steps w v → IsStemOf w v
stem-without_y w v long other steps =
    let k = Keeps-Steps w v steps in
    record {
      stem = inr (long, inr (λ u h. other h.0 h.2, steps));
      bound = omega (arith, k.bound);
      first =
          first_kept w v long k;
    }

-- what `starts_with` says of a first y
pub y-start : (w s : List ℕ) (r : Bool) → s ≡ w → MatchBool r (HasPrefixMatch (FindsCharPrefix 121) s)
    (FindsCharPrefix 121 s None) → r ≡ true → 3 ≤ length w → (t : List ℕ) × (chars w ≡ 121 ∷ t)
y-start w s r e h k long =
    first_y w (omega arith) (ap (λ z. get_or z 0 0) (sym e) ∙ (starts_char 121 s r h (lit< tt) (lit< tt)).0 k)

pub y-other : (w s : List ℕ) (r : Bool) → s ≡ w → MatchBool r (HasPrefixMatch (FindsCharPrefix 121) s)
    (FindsCharPrefix 121 s None) → r ≡ false → IsUtf8 w → (t : List ℕ) → chars w ≢ 121 ∷ t
y-other w s r e h k u t =
    first_not_y w t u (λ g. true≢false (sym ((starts_char 121 s r h (lit< tt) (lit< tt)).1 (ap (λ z. get_or z 0 0) e
    ∙ g)) ∙ k))

-- the capital Y still stands at the start
pub y-kept : (w a b t : List ℕ) → w ≡ 121 ∷ t → ((c : ℕ) (rest : List ℕ) → w ≡ c ∷ rest → a ≡ 89 ∷ rest) → Steps a b
    → (u : List ℕ) × (b ≡ 89 ∷ u)
y-kept w a b t y set steps = (Keeps-Steps a b steps).first 89 t (set 121 t y)
