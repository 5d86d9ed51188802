-- Each word has a stem: the tests, the cuts and the rules are decided.
use Rattle.std.proofs.Common.{◌≡◌, ◌≢◌, ℕ, ◌-◌, ◌≤◌, Bool, true, false, not, List, [], ◌∷◌, ◌++◌, ◌⊎◌, ◌↔◌, inl, inr}
use Rattle.std.proofs.Common.{⊎_elim, refl, sym, ap, ◌∙◌, subst, arith, length, length-append, append_assoc, append-nil}
use Rattle.std.proofs.Common.{take, drop, codes, true≢false, bytes_eq, le_of_lt, lt_of_not-le, nat_le, leb-true, le-leb}
use Rattle.std.proofs.Common.{◌==◌, fold, encode_utf8_all, eqb-true, eq-eqb, take-append-drop}
use Rattle.std.proofs.Math.Seq.{drop-append_seam}
use Rattle.std.proofs.lemmas.List.{append_cancel_right}
use Rattle.std.proofs.lemmas.Slice.Eq.{bytes_eq-Decides}
use Rattle.std.specs.List.{AllByRecursion, list_all}
use Rattle.elasticlunr_text.specs.Letters.{is_one_of, is_vowel}
use Rattle.elasticlunr_text.specs.Blocks.{MAbove0, MAbove1, MIs1, HasVowel, IsShort}
use Rattle.elasticlunr_text.specs.Reading.{reading_after, short_after, rank, places}
use Rattle.elasticlunr_text.specs.declared.lang.en.blocks.Place.{Place}
use Rattle.elasticlunr_text.specs.declared.lang.en.blocks.Reading.TheVariants.{Start}
use Rattle.elasticlunr_text.specs.declared.lang.en.blocks.Short.{Short}
use Rattle.elasticlunr_text.specs.declared.lang.en.blocks.Short.TheVariants.{Begun, Consonants, Vowel, Whole, Other}
use Rattle.elasticlunr_text.specs.Suffixes.{Ending, step_2_endings, step_3_endings, step_4_endings}
use Rattle.elasticlunr_text.specs.Stems.{IsStem, IsCut, HasNoCut, EndsWith, EndsAfterStem, EndsInDouble, Rule, FirstOf}
use Rattle.elasticlunr_text.specs.Stems.{Then, Stays, LosesEs, LosesS, EndsInEed, GetsE, LosesDouble, ShortGetsE}
use Rattle.elasticlunr_text.specs.Stems.{Mended, LosesAndMends, YBecomesI, Replaces, DropsEnding, DropsIon}
use Rattle.elasticlunr_text.specs.Stems.{StandsWithoutE, DropsE, DropsL, Step1a, Step1b, Step1c, Step2, Step3, Step4}
use Rattle.elasticlunr_text.specs.Stems.{Step5, Steps, WithFirstY, Stem}
use Rattle.elasticlunr_text.proofs.BlockLemmas.{Is1, HasVowel-read, MAbove0-read, MAbove1-read, MIs1-read, reading}
use Rattle.elasticlunr_text.proofs.ShortLemmas.{IsShort-read, read-IsShort}
use Rattle.elasticlunr_text.proofs.EndingLemmas.{no_line_feed, line_feed_free}
use Rattle.elasticlunr_text.proofs.StepLemmas.{cut-stem, same_parts, double-same, double-made, no_double}
use Rattle.elasticlunr_text.proofs.CutLemmas.{none-none, none-some, some-none, some-kept, some-better}
use Rattle.elasticlunr_text.proofs.KeepLemmas.{Keeps-Steps}

-- a list is empty or has a last element
pub last_of : (u : List ℕ) → (u ≡ []) ⊎ ((f : List ℕ) × (c : ℕ) × (u ≡ f ++ c ∷ []))
last_of [] = inl refl
last_of (d ∷ u) = last_of-cons d u (last_of u)
  where
    last_of-cons : (d : ℕ) (u : List ℕ) → (u ≡ []) ⊎ ((f : List ℕ) × (c : ℕ) × (u ≡ f ++ c ∷ [])) → (d ∷ u ≡ [])
        ⊎ ((f : List ℕ) × (c : ℕ) × (d ∷ u ≡ f ++ c ∷ []))
    last_of-cons d u (inl e) = inr ([], d, ap (λ t. d ∷ t) e)
    last_of-cons d u (inr (f, c, e)) = inr (d ∷ f, c, ap (λ t. d ∷ t) e)

abbrev Decided : Type 0 → Type 0
Decided P = P ⊎ (¬ P)

dec-iff : (P Q : Type 0) → (P ↔ Q) → Decided P → Decided Q
dec-iff P Q e (inl p) = inl (e.0 p)
dec-iff P Q e (inr n) = inr (λ q. n (e.1 q))

dec-or : (P Q : Type 0) → Decided P → Decided Q → Decided (P ⊎ Q)
dec-or P Q (inl p) q = inl (inl p)
dec-or P Q (inr n) (inl q) = inl (inr q)
dec-or P Q (inr n) (inr m) = inr (λ h. ⊎_elim n m h)

dec-both : (P Q : Type 0) → Decided P → Decided Q → Decided (P × Q)
dec-both P Q (inl p) (inl q) = inl (p, q)
dec-both P Q (inl p) (inr m) = inr (λ h. m h.1)
dec-both P Q (inr n) q = inr (λ h. n h.0)

dec-not : (P : Type 0) → Decided P → Decided (¬ P)
dec-not P (inl p) = inr (λ n. n p)
dec-not P (inr n) = inl n

dec-bool : (b : Bool) → Decided (b ≡ true)
dec-bool true = inl refl
dec-bool false = inr (λ e. true≢false (sym e))

dec-false : (b : Bool) → Decided (b ≡ false)
dec-false true = inr (λ e. true≢false e)
dec-false false = inl refl

dec-le : (m n : ℕ) → Decided (m ≤ n)
dec-le m n = elim (dec-bool (nat_le m n)) [ inl e ↦ inl (leb-true m n e) | inr e ↦ inr (λ h. e (le-leb m n h)) ]

dec-same : (x y : List ℕ) → Decided (x ≡ y)
dec-same x y = dec-iff (bytes_eq x y ≡ true) (x ≡ y) (bytes_eq-Decides x y) (dec-bool (bytes_eq x y))

-- ---- the tests
dec-HasVowel : (w : List ℕ) → Decided (HasVowel w)
dec-HasVowel w =
    let ps = places (fold reading_after Start w) in
    dec-iff _ _ (HasVowel-read w ps.0 ps.1 (reading w)) (dec-or _ _ (dec-le 1 (rank ps.0)) (dec-le 1 (rank ps.1)))

dec-MAbove0 : (w : List ℕ) → Decided (MAbove0 w)
dec-MAbove0 w =
    let ps = places (fold reading_after Start w) in
    dec-iff _ _ (MAbove0-read w ps.0 ps.1 (reading w)) (dec-or _ _ (dec-le 2 (rank ps.0)) (dec-le 2 (rank ps.1)))

dec-MAbove1 : (w : List ℕ) → Decided (MAbove1 w)
dec-MAbove1 w =
    let ps = places (fold reading_after Start w) in
    dec-iff _ _ (MAbove1-read w ps.0 ps.1 (reading w)) (dec-or _ _ (dec-le 4 (rank ps.0)) (dec-le 4 (rank ps.1)))

dec-Is1 : (p : Place) → Decided (Is1 p)
dec-Is1 p = dec-both _ _ (dec-le 2 (rank p)) (dec-le (rank p) 3)

dec-MIs1 : (w : List ℕ) → Decided (MIs1 w)
dec-MIs1 w =
    let ps = places (fold reading_after Start w) in
    dec-iff _ _ (MIs1-read w ps.0 ps.1 (reading w)) (dec-or _ _ (dec-Is1 ps.0) (dec-Is1 ps.1))

dec-Whole : (s : Short) → Decided (s ≡ Whole)
dec-Whole Begun = inr (λ e. cc)
dec-Whole Consonants = inr (λ e. cc)
dec-Whole Vowel = inr (λ e. cc)
dec-Whole Whole = inl refl
dec-Whole Other = inr (λ e. cc)

dec-IsShort : (w : List ℕ) → Decided (IsShort w)
dec-IsShort w = dec-iff (fold short_after Begun w ≡ Whole) (IsShort w) (IsShort-read w, read-IsShort w)
    (dec-Whole (fold short_after Begun w))

-- ---- stems and suffixes
dec-IsStem : (s : List ℕ) → Decided (IsStem s)
dec-IsStem s =
    dec-both _ _ (dec-not _ (dec-same s []))
    (dec-iff (list_all (λ c. not (c == 10)) s ≡ true) (AllByRecursion (λ c. c ≢ 10) s)
    (no_line_feed s, line_feed_free s) (dec-bool (list_all (λ c. not (c == 10)) s)))

-- what stands before the suffix, where the word ends with it
split-at : (x w : List ℕ) → Decided (EndsWith x w)
split-at x w =
    let n = length w - length x in
    let front : EndsWith x w → drop n w ≡ x = λ h.
    let k : n ≡ length h.0 = omega (arith, ap (λ z. length z) h.1, length-append h.0 x) in
    ap (λ (m : ℕ). drop m w) k ∙ ap (λ z. drop (length h.0) z) h.1 ∙ drop-append_seam h.0 x in
    dec-iff (drop n w ≡ x) (EndsWith x w)
    (λ e. (take n w, sym (take-append-drop n w) ∙ ap (λ z. take n w ++ z) e), front) (dec-same (drop n w) x)

dec-stem_at : (x w : List ℕ) → Decided (EndsWith x w) → Decided (EndsAfterStem x w)
dec-stem_at x w (inr n) = inr (λ h. n (h.0, h.2))
dec-stem_at x w (inl h) =
    elim (dec-IsStem h.0) [
      | inl s ↦ inl (h.0, s, h.1)
      | inr n ↦ inr (λ k. n (subst (λ (z : List ℕ). IsStem z) (append_cancel_right k.0 h.0 x (sym k.2 ∙ h.1)) k.1))
    ]

dec-EndsAfterStem : (x w : List ℕ) → Decided (EndsAfterStem x w)
dec-EndsAfterStem x w = dec-stem_at x w (split-at x w)

-- a stem and a letter before the suffix
abbrev Letter : List ℕ → List ℕ → Type 0
Letter x w = (s : List ℕ) × (c : ℕ) × IsStem s × (w ≡ s ++ c ∷ x)

letter-at : (x w f : List ℕ) → w ≡ f ++ x → (f ≡ []) ⊎ ((g : List ℕ) × (c : ℕ) × (f ≡ g ++ c ∷ []))
    → Decided (Letter x w)
letter-at x w f e (inl z) = inr (λ h. omega (
  arith,
  ap (λ t. length t) e,
  ap (λ t. length t) z,
  length-append f x,
  ap (λ t. length t) h.3,
  length-append h.0 (h.1 ∷ x),
))
letter-at x w f e (inr (g, c, k)) =
    let whole : w ≡ g ++ c ∷ x = e ∙ ap (λ t. t ++ x) k ∙ append_assoc g (c ∷ []) x in
    elim (dec-IsStem g) [
      | inl s ↦ inl (g, c, s, whole)
      | inr n ↦ inr (λ h. n (subst (λ (z : List ℕ). IsStem z) (same_parts h.0 g x h.1 c (sym h.3 ∙ whole)).0 h.2))
    ]

letter-end : (x w : List ℕ) → Decided (EndsWith x w) → Decided (Letter x w)
letter-end x w (inr n) = inr (λ h. n (h.0 ++ h.1 ∷ [], h.3 ∙ sym (append_assoc h.0 (h.1 ∷ []) x)))
letter-end x w (inl h) = letter-at x w h.0 h.1 (last_of h.0)

dec-Letter : (x w : List ℕ) → Decided (Letter x w)
dec-Letter x w = letter-end x w (split-at x w)

-- ---- cuts
abbrev CutOrNone : List Ending → List ℕ → Type 0
CutOrNone T w = HasNoCut T w ⊎ ((s : List ℕ) × (x : List ℕ) × (y : List ℕ) × IsCut T w s x y)

one-more : (T : List Ending) (w x y : List ℕ) → CutOrNone T w → Decided (EndsAfterStem x w)
    → CutOrNone (T ++ (x, y) ∷ []) w
one-more T w x y (inl h) (inr n) = inl (none-none T w x y h (λ s st e. n (s, st, e)))
one-more T w x y (inl h) (inl k) = inr (k.0, x, y, none-some T w x y k.0 h k.1 k.2)
one-more T w x y (inr (s, a, b, c)) (inr n) = inr (s, a, b, some-none T w x y s a b c (λ t st e. n (t, st, e)))
one-more T w x y (inr (s, a, b, c)) (inl k) =
    elim (dec-le (length x) (length a)) [
      | inl le ↦ inr (s, a, b, some-kept T w x y s a b c le)
      | inr n ↦ inr (k.0, x, y, some-better T w x y s a b k.0 c k.1 k.2 (le_of_lt (lt_of_not-le n)))
    ]

all-more : (T S : List Ending) (w : List ℕ) → CutOrNone T w → CutOrNone (T ++ S) w
all-more T [] w h = subst (λ (t : List Ending). CutOrNone t w) (sym (append-nil T)) h
all-more T ((x, y) ∷ S) w h =
    subst (λ (t : List Ending). CutOrNone t w) (append_assoc T ((x, y) ∷ []) S)
    (all-more (T ++ (x, y) ∷ []) S w (one-more T w x y h (dec-EndsAfterStem x w)))

cut-or-none : (T : List Ending) (w : List ℕ) → CutOrNone T w
cut-or-none T w = all-more [] T w (inl (λ s x y st c e. absurd (omega (arith, c.1))))

-- ---- rules
-- it is decided whether the rule applies; the rule makes something of each word
abbrev Applies : Rule → Type 0
Applies R = (w : List ℕ) → Decided ((v : List ℕ) × R w v)

abbrev Some : Rule → Type 0
Some R = (w : List ℕ) → (v : List ℕ) × R w v

first-at : (R Q : Rule) (w : List ℕ) → Decided ((v : List ℕ) × R w v) → (v : List ℕ) × Q w v → (v : List ℕ)
    × FirstOf R Q w v
first-at R Q w (inl r) q = (r.0, inl r.1)
first-at R Q w (inr n) q = (q.0, inr (λ u h. n (u, h), q.1))

some-FirstOf : (R Q : Rule) → Applies R → Some Q → Some (FirstOf R Q)
some-FirstOf R Q r q w = first-at R Q w (r w) (q w)

some-or_stays : (R : Rule) → Applies R → Some (FirstOf R Stays)
some-or_stays R r w = first-at R Stays w (r w) (w, refl)

some-Then : (R Q : Rule) → Some R → Some Q → Some (Then R Q)
some-Then R Q r q w = let a = r w in let b = q a.0 in (b.0, (a.0, a.1, b.1))

with-end : (x y s w : List ℕ) → w ≡ s ++ (x ++ y) → w ≡ (s ++ x) ++ y
with-end x y s w e = e ∙ sym (append_assoc s x y)

some-LosesEs : Applies LosesEs
some-LosesEs w =
    elim (dec-EndsAfterStem (codes "sses") w) [
      | inl h ↦ inl (h.0 ++ codes "ss", (inl h, with-end (codes "ss") (codes "es") h.0 w h.2))
      | inr n ↦ elim (dec-EndsAfterStem (codes "ies") w) [
        | inl h ↦ inl (h.0 ++ codes "i", (inr h, with-end (codes "i") (codes "es") h.0 w h.2))
        | inr m ↦ inr (λ k. ⊎_elim n m k.1.0)
      ]
    ]

some-LosesS : Applies LosesS
some-LosesS w =
    elim (dec-Letter (codes "s") w) [
      | inl h ↦ elim (dec-bool (h.1 == 115)) [
        | inl e ↦ inr (λ k. k.1.3 ((same_parts k.1.0 h.0 (codes "s") k.1.1 h.1
            (sym (append_assoc k.1.0 (k.1.1 ∷ []) (codes "s")) ∙ ap (λ t. t ++ codes "s") (sym k.1.4) ∙ sym k.1.5
            ∙ h.3)).1 ∙ eqb-true h.1 115 e))
        | inr n ↦ inl (
          h.0 ++ h.1 ∷ [],
          (
            h.0,
            h.1,
            h.2,
            (λ e. n (eq-eqb h.1 115 e)),
            refl,
            with-end (h.1 ∷ [])
                (codes "s") h.0 w h.3,
          ),
        )
      ]
      | inr n ↦ inr (λ k. n (
        k.1.0,
        k.1.1,
        k.1.2,
        k.1.5 ∙ ap (λ t. t ++ codes "s") k.1.4
            ∙ append_assoc k.1.0 (k.1.1 ∷ []) (codes "s"),
      ))
    ]

some-EndsInEed : Applies EndsInEed
some-EndsInEed w =
    elim (dec-EndsAfterStem (codes "eed") w) [
      | inl h ↦ elim (dec-MAbove0 h.0) [
        | inl m ↦ inl (h.0 ++ codes "ee", (h.0, h.1, h.2, inl (m, with-end (codes "ee") (codes "d") h.0 w h.2)))
        | inr n ↦ inl (w, (h.0, h.1, h.2, inr (n, refl)))
      ]
      | inr n ↦ inr (λ k. n (k.1.0, k.1.1, k.1.2))
    ]

some-GetsE : Applies GetsE
some-GetsE w =
    elim (dec-or _ _ (split-at (codes "at") w) (dec-or _ _ (split-at (codes "bl") w) (split-at (codes "iz") w))) [
      | inl h ↦ inl (w ++ codes "e", (h, refl))
      | inr n ↦ inr (λ k. n k.1.0)
    ]

-- a word that ends with a letter, and the letter before it
double-at : (w f g : List ℕ) (last before : ℕ) → w ≡ f ++ last ∷ [] → f ≡ g ++ before ∷ [] → Decided (EndsInDouble w)
double-at w f g last before e k =
    elim (dec-both _ _ (dec-bool (before == last)) (dec-false (is_one_of (codes "aeiouylsz") last))) [
      | inl h ↦ inl (double-made w f g last before e k (eqb-true before last h.0) h.1)
      | inr n ↦ inr (λ d. let s = double-same w f g last before e k d in n (eq-eqb before last s.0, s.1))
    ]

double-front : (w f : List ℕ) (last : ℕ) → w ≡ f ++ last ∷ [] → (f ≡ []) ⊎ ((g : List ℕ) × (c : ℕ) × (f ≡ g ++ c ∷ []))
    → Decided (EndsInDouble w)
double-front w f last e (inl z) =
    inr (λ d. omega (
      arith,
      ap (λ t. length t) e,
      ap (λ t. length t) z,
      length-append f (last ∷ []),
      ap (λ t. length t)
          d.3,
      length-append d.0 (d.1 ∷ d.1 ∷ []),
    ))
double-front w f last e (inr (g, c, k)) = double-at w f g last c e k

double-end : (w : List ℕ) → (w ≡ []) ⊎ ((g : List ℕ) × (c : ℕ) × (w ≡ g ++ c ∷ [])) → Decided (EndsInDouble w)
double-end w (inl z) = inr (λ d. no_double (subst (λ (t : List ℕ). EndsInDouble t) z d))
double-end w (inr (f, c, e)) = double-front w f c e (last_of f)

some-LosesDouble : Applies LosesDouble
some-LosesDouble w =
    elim (double-end w (last_of w)) [
      | inl d ↦ inl (d.0 ++ d.1 ∷ [], (d.0, d.1, d.2, refl, with-end (d.1 ∷ []) (d.1 ∷ []) d.0 w d.3))
      | inr n ↦ inr (λ k. n (
        k.1.0,
        k.1.1,
        k.1.2,
        k.1.4 ∙ ap (λ t. t ++ k.1.1 ∷ []) k.1.3
            ∙ append_assoc k.1.0 (k.1.1 ∷ []) (k.1.1 ∷ []),
      ))
    ]

some-ShortGetsE : Applies ShortGetsE
some-ShortGetsE w =
    elim (dec-IsShort w) [ inl h ↦ inl (w ++ codes "e", (h, refl)) | inr n ↦ inr (λ k. n k.1.0) ]

some-Mended : Some Mended
some-Mended =
    some-FirstOf GetsE (FirstOf LosesDouble (FirstOf ShortGetsE Stays)) some-GetsE
    (some-FirstOf LosesDouble (FirstOf ShortGetsE Stays) some-LosesDouble (some-or_stays ShortGetsE some-ShortGetsE))

some-LosesAndMends : (x : List ℕ) → Applies (LosesAndMends x)
some-LosesAndMends x w =
    elim (dec-EndsAfterStem x w) [
      | inl h ↦ elim (dec-HasVowel h.0) [
        | inl v ↦ (let m = some-Mended h.0 in inl (m.0, (h.0, h.1, h.2, v, m.1)))
        | inr n ↦ inr (λ k. n (subst (λ (z : List ℕ). HasVowel z) (append_cancel_right k.1.0 h.0 x (sym k.1.2 ∙ h.2))
            k.1.3))
      ]
      | inr n ↦ inr (λ k. n (k.1.0, k.1.1, k.1.2))
    ]

some-YBecomesI : Applies YBecomesI
some-YBecomesI w =
    elim (dec-Letter (codes "y") w) [
      | inl h ↦ elim (dec-false (is_vowel h.1)) [
        | inl v ↦ inl (h.0 ++ h.1 ∷ codes "i", (h.0, h.1, h.2, v, h.3, refl))
        | inr n ↦ inr (λ k. n (ap (λ d. is_vowel d) (same_parts h.0 k.1.0 (codes "y") h.1 k.1.1 (sym h.3 ∙ k.1.4)).1
            ∙ k.1.3))
      ]
      | inr n ↦ inr (λ k. n (k.1.0, k.1.1, k.1.2, k.1.4))
    ]

replaces-at : (T : List Ending) (w : List ℕ) → CutOrNone T w → Decided ((v : List ℕ) × Replaces T w v)
replaces-at T w (inl none) = inr (λ k. none k.1.0 k.1.1 k.1.2 k.1.3.stem k.1.3.listed k.1.3.split)
replaces-at T w (inr (s, x, y, c)) =
    elim (dec-MAbove0 s) [
      | inl m ↦ inl (s ++ y, (s, x, y, c, m, refl))
      | inr n ↦ inr (λ k. n (subst (λ (z : List ℕ). MAbove0 z) (cut-stem T w k.1.0 k.1.1 k.1.2 s x y k.1.3 c) k.1.4))
    ]

drops-at : (T : List Ending) (w : List ℕ) → CutOrNone T w → Decided ((v : List ℕ) × DropsEnding T w v)
drops-at T w (inl none) = inr (λ k. none k.1.0 k.1.1 k.1.2 k.1.3.stem k.1.3.listed k.1.3.split)
drops-at T w (inr (s, x, y, c)) =
    elim (dec-MAbove1 s) [ inl m ↦ inl (s, (s, x, y, c, inl (m, refl))) | inr n ↦ inl (w, (s, x, y, c, inr (n, refl))) ]

some-DropsIon : Applies DropsIon
some-DropsIon w =
    elim (split-at (codes "ion") w) [
      | inl f ↦ elim (dec-both _ _ (dec-or _ _ (dec-EndsAfterStem (codes "sion") w)
          (dec-EndsAfterStem (codes "tion") w)) (dec-MAbove1 f.0)) [
            | inl h ↦ inl (f.0, (h.0, f.1, h.1))
            | inr n ↦ inr (λ k. n (
              k.1.0,
              subst (λ (z : List ℕ). MAbove1 z)
                  (append_cancel_right k.0 f.0 (codes "ion") (sym k.1.1 ∙ f.1)) k.1.2,
            ))
          ]
      | inr n ↦ inr (λ k. n (k.0, k.1.1))
    ]

dec-Stands : (s : List ℕ) → Decided (StandsWithoutE s)
dec-Stands s = dec-or _ _ (dec-MAbove1 s) (dec-both _ _ (dec-MIs1 s) (dec-not _ (dec-IsShort s)))

some-DropsE : Applies DropsE
some-DropsE w =
    elim (dec-EndsAfterStem (codes "e") w) [
      | inl h ↦ elim (dec-Stands h.0) [
        | inl m ↦ inl (h.0, (h.1, h.2, m))
        | inr n ↦ inr (λ k. n (subst (λ (z : List ℕ). StandsWithoutE z)
            (append_cancel_right k.0 h.0 (codes "e") (sym k.1.1 ∙ h.2)) k.1.2))
      ]
      | inr n ↦ inr (λ k. n (k.0, k.1.0, k.1.1))
    ]

some-DropsL : Applies DropsL
some-DropsL w =
    elim (split-at (codes "ll") w) [
      | inl f ↦ elim (dec-MAbove1 w) [
        | inl m ↦ inl (f.0 ++ codes "l", (f, m, with-end (codes "l") (codes "l") f.0 w f.1))
        | inr n ↦ inr (λ k. n k.1.1)
      ]
      | inr n ↦ inr (λ k. n k.1.0)
    ]

some-Steps : Some Steps
some-Steps =
    some-Then Step1a (Then Step1b (Then Step1c (Then Step2 (Then Step3 (Then Step4 Step5)))))
    (some-Then (FirstOf LosesEs Stays) (FirstOf LosesS Stays) (some-or_stays LosesEs some-LosesEs)
    (some-or_stays LosesS some-LosesS))
    (some-Then Step1b (Then Step1c (Then Step2 (Then Step3 (Then Step4 Step5))))
    (some-FirstOf EndsInEed (FirstOf (LosesAndMends (codes "ed")) (FirstOf (LosesAndMends (codes "ing")) Stays))
    some-EndsInEed
    (some-FirstOf (LosesAndMends (codes "ed")) (FirstOf (LosesAndMends (codes "ing")) Stays)
    (some-LosesAndMends (codes "ed"))
    (some-or_stays (LosesAndMends (codes "ing")) (some-LosesAndMends (codes "ing")))))
    (some-Then Step1c (Then Step2 (Then Step3 (Then Step4 Step5))) (some-or_stays YBecomesI some-YBecomesI)
    (some-Then Step2 (Then Step3 (Then Step4 Step5))
    (some-or_stays (Replaces step_2_endings) (λ w. replaces-at step_2_endings w (cut-or-none step_2_endings w)))
    (some-Then Step3 (Then Step4 Step5) (some-or_stays (Replaces step_3_endings)
    (λ w. replaces-at step_3_endings w (cut-or-none step_3_endings w)))
    (some-Then Step4 Step5
    (some-FirstOf (DropsEnding step_4_endings) (FirstOf DropsIon Stays)
    (λ w. drops-at step_4_endings w (cut-or-none step_4_endings w)) (some-or_stays DropsIon some-DropsIon))
    (some-Then (FirstOf DropsE Stays) (FirstOf DropsL Stays) (some-or_stays DropsE some-DropsE)
    (some-or_stays DropsL some-DropsL)))))))

with_y-at : (c : ℕ) (t : List ℕ) → Decided ((c == 121) ≡ true) → Decided ((v : List ℕ) × WithFirstY Steps (c ∷ t) v)
with_y-at c t (inr n) = inr (λ k. let e = k.1.2 in let same : c ≡ 121 = cc in n (eq-eqb c 121 same))
with_y-at c t (inl e) =
    let a = some-Steps (89 ∷ t) in
    let u = (Keeps-Steps (89 ∷ t) a.0 a.1).first 89 t refl in
    inl (
      121 ∷ u.0,
      (
        t,
        u.0,
        ap (λ d. d ∷ t) (eqb-true c 121 e),
        subst (λ (z : List ℕ). Steps (89 ∷ t) z) u.1 a.1,
        refl,
      ),
    )

some-WithFirstY : Applies (WithFirstY Steps)
some-WithFirstY [] = inr (λ k. let e = k.1.2 in absurd (cc))
some-WithFirstY (c ∷ t) = with_y-at c t (dec-bool (c == 121))

pub some-Stem : (w : List ℕ) → (v : List ℕ) × Stem w v
some-Stem w =
    elim (dec-le 3 (length (encode_utf8_all w))) [
      | inl long ↦ (let a = some-FirstOf (WithFirstY Steps) Steps some-WithFirstY some-Steps w in
          (a.0, inr (long, a.1)))
      | inr n ↦ (w, inl (lt_of_not-le n, refl))
    ]
