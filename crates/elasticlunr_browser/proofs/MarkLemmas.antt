-- The marks of a class, as far as a loop has come.
use Rattle.std.proofs.Common.{◌≡◌, ◌≢◌, ◌⊎◌, ℕ, ◌+◌, ◌<◌, ◌≤◌, inl, inr, nat_le, Bool, true, false, not, cond, List, []}
use Rattle.std.proofs.Common.{◌∷◌, ◌++◌, length, get_or, refl, sym, ap, subst, ◌∙◌, arith, length-append, below_more}
use Rattle.std.specs.List.{count_by}
use Rattle.std.specs.List.Sorted.{IsStrictlyIncreasing}
use Rattle.std.specs.Char.{InScalarRange}
use Rattle.std.proofs.Math.ListN.{get_or-append}
use Rattle.std.proofs.Math.Seq.{get_or-append_seam}
use Rattle.std.proofs.lemmas.List.Sums.{sum_by-append}
use Rattle.std.proofs.lemmas.Bool.{cases_order}
use Rattle.std.proofs.lemmas.Bool.Decides.{nat_tests}
use Rattle.elasticlunr_browser.specs.Marks.{is_odd, is_marked, Marks}

-- the marks of the characters below n, the last of which is of the class or not
pub record AreMarks (has : ℕ → Bool) (n : ℕ) (inside : Bool) (marks : List ℕ) : Type 0 where
  pub all : (c : ℕ) → n ≤ c + 1 → count_by (λ mark. nat_le mark c) marks ≡ length marks
  pub so_far : (c : ℕ) → c < n → InScalarRange c → is_marked marks c ≡ has c
  pub state : inside ≡ is_odd (length marks)
  pub rise : IsStrictlyIncreasing marks
  pub below : (k : ℕ) → k < length marks → get_or marks k 0 < n

pub is_odd-add-one : (n : ℕ) → is_odd (n + 1) ≡ not (is_odd n)
is_odd-add-one n = grind (arith, nat_tests)

count-push : (c code : ℕ) (marks : List ℕ) → count_by (λ mark. nat_le mark c) (marks ++ code ∷ [])
    ≡ count_by (λ mark. nat_le mark c) marks + cond (nat_le code c) 1 0
count-push c code marks = sum_by-append (λ mark. cond (nat_le mark c) 1 0) marks (code ∷ []) ∙ omega arith

not_same : (a b : Bool) → a ≢ b → a ≡ not b
not_same true true n = absurd (n refl)
not_same true false n = refl
not_same false true n = refl
not_same false false n = absurd (n refl)

none_at_all : (has : ℕ → Bool) → AreMarks has 0 false []
none_at_all has = record {
  all = λ c h. refl;
  so_far = λ c h. absurd (omega (arith, h));
  state = refl;
  rise = λ k h. absurd (omega (arith, h));
  below = λ k h. absurd (omega (arith, h));
}

pub none_yet : (has : ℕ → Bool) (marks : List ℕ) → marks ≡ [] → AreMarks has 0 false marks
none_yet has marks e = subst (AreMarks has 0 false) (sym e) (none_at_all has)

-- a mark after the character is not counted, another one is
count-later : (c code : ℕ) (marks : List ℕ) → c < code → count_by (λ mark. nat_le mark c) (marks ++ code ∷ [])
    ≡ count_by (λ mark. nat_le mark c) marks
count-later c code marks h = count-push c code marks ∙ grind (arith, nat_tests, h)

count-now : (c code : ℕ) (marks : List ℕ) → code ≤ c → count_by (λ mark. nat_le mark c) (marks ++ code ∷ [])
    ≡ count_by (λ mark. nat_le mark c) marks + 1
count-now c code marks h = count-push c code marks ∙ grind (arith, nat_tests, h)

length-push : (code : ℕ) (marks : List ℕ) → length (marks ++ code ∷ []) ≡ length marks + 1
length-push code marks = length-append marks (code ∷ [])

-- a mark above all others at their end
last-mark : (code : ℕ) (marks : List ℕ) (k : ℕ) → k ≡ length marks → get_or (marks ++ code ∷ []) k 0 ≡ code
last-mark code marks k e = ap (λ i. get_or (marks ++ code ∷ []) i 0) e ∙ get_or-append_seam marks code [] 0

first-marks : (code : ℕ) (marks : List ℕ) (k : ℕ) → k < length marks → get_or (marks ++ code ∷ []) k 0
    ≡ get_or marks k 0
first-marks code marks k h = get_or-append marks (code ∷ []) 0 k h

below-push : (code : ℕ) (marks : List ℕ) → ((k : ℕ) → k < length marks → get_or marks k 0 < code) → (k : ℕ)
    → k < length marks + 1 → get_or (marks ++ code ∷ []) k 0 < code + 1
below-push code marks lower = below_more _ _
    (λ k h. let one : get_or marks k 0 < code = lower k h in let same = first-marks code marks k h in omega arith)
    (let same = last-mark code marks (length marks) refl in omega arith)

rise-push : (code : ℕ) (marks : List ℕ) → IsStrictlyIncreasing marks
    → ((k : ℕ) → k < length marks → get_or marks k 0 < code) → (k : ℕ) → k < length marks
    → get_or (marks ++ code ∷ []) k 0 < get_or (marks ++ code ∷ []) (k + 1) 0
rise-push code marks rise lower k h = next (cases_order (k + 1) (length marks))
  where
    next : (k + 1 ≡ length marks) ⊎ ((k + 1 < length marks) ⊎ (length marks < k + 1))
        → get_or (marks ++ code ∷ []) k 0 < get_or (marks ++ code ∷ []) (k + 1) 0
    next (inl e) = let here = first-marks code marks k h in let last = last-mark code marks (k + 1) e in let less :
        get_or marks k 0 < code = lower k h in omega arith
    next (inr (inl lt)) = let here = first-marks code marks k h in let there = first-marks code marks (k + 1) lt in let
        less : get_or marks k 0 < get_or marks (k + 1) 0 = rise k lt in omega arith
    next (inr (inr past)) = absurd (omega arith)

pub step_same : (has : ℕ → Bool) (code : ℕ) (inside now : Bool) (marks : List ℕ) → AreMarks has code inside marks
    → (InScalarRange code → now ≡ has code) → now ≡ inside → AreMarks has (code + 1) now marks
step_same has code inside now marks are is_now same = record {
  all = λ c h. are.all c (omega (arith, h));
  so_far = below_more _ _ are.so_far (λ scalar. ap is_odd (are.all code (omega arith)) ∙ sym are.state ∙ sym same
      ∙ is_now scalar);
  state = same ∙ are.state;
  rise = are.rise;
  below = λ k h. let lower = are.below k h in omega arith;
}

pub step_turn : (has : ℕ → Bool) (code : ℕ) (inside now : Bool) (marks : List ℕ) → AreMarks has code inside marks
    → (InScalarRange code → now ≡ has code) → now ≢ inside → AreMarks has (code + 1) now (marks ++ code ∷ [])
step_turn has code inside now marks are is_now differ =
    let turned : now ≡ not (is_odd (length marks)) = not_same now inside differ ∙ ap not are.state in
    record {
      all = λ c h. count-now c code marks (omega (arith, h)) ∙ ap (λ n. n + 1) (are.all c (omega (arith, h)))
          ∙ sym (length-push code marks);
      so_far = below_more _ _ (λ c h scalar. ap is_odd (count-later c code marks h) ∙ are.so_far c h scalar)
          (λ scalar. ap is_odd (count-now code code marks (omega arith) ∙ ap (λ n. n + 1) (are.all code (omega arith)))
          ∙ is_odd-add-one (length marks) ∙ sym turned ∙ is_now scalar);
      state = turned ∙ sym (is_odd-add-one (length marks)) ∙ ap is_odd (sym (length-push code marks));
      rise = λ k h. rise-push code marks are.rise are.below k (let n = length-push code marks in omega (arith, h));
      below = λ k h. below-push code marks are.below k (let n = length-push code marks in omega (arith, h));
    }

pub step : (has : ℕ → Bool) (code : ℕ) (inside now : Bool) (marks marks' : List ℕ) → AreMarks has code inside marks
    → (InScalarRange code → now ≡ has code) → (now ≡ inside → marks' ≡ marks)
    → (now ≢ inside → marks' ≡ marks ++ code ∷ []) → AreMarks has (code + 1) now marks'
step has code true true marks marks' are is_now same turn = subst (AreMarks has (code + 1) true) (sym (same refl))
    (step_same has code true true marks are is_now refl)
step has code false false marks marks' are is_now same turn = subst (AreMarks has (code + 1) false) (sym (same refl))
    (step_same has code false false marks are is_now refl)
step has code true false marks marks' are is_now same turn =
    let differ : false ≢ true = λ e. cc in subst (AreMarks has (code + 1) false) (sym (turn differ))
    (step_turn has code true false marks are is_now differ)
step has code false true marks marks' are is_now same turn =
    let differ : true ≢ false = λ e. cc in subst (AreMarks has (code + 1) true) (sym (turn differ))
    (step_turn has code false true marks are is_now differ)

-- all characters have numbers below this
at_all : (has : ℕ → Bool) (n : ℕ) (inside : Bool) (marks : List ℕ) → AreMarks has n inside marks → 0x110000 ≤ n
    → (c : ℕ) → InScalarRange c → is_marked marks c ≡ has c
at_all has n inside marks are whole c (inl low) = are.so_far c (omega (arith, low, whole)) (inl low)
at_all has n inside marks are whole c (inr high) = are.so_far c (omega (arith, high.0, high.1, whole)) (inr high)

pub at_end : (has : ℕ → Bool) (n : ℕ) (inside : Bool) (marks : List ℕ) → AreMarks has n inside marks → 0x110000 ≤ n
    → Marks has marks
at_end has n inside marks are whole = record { rise = are.rise; marked = at_all has n inside marks are whole }
