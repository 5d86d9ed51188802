-- A test of what entries represent.
use Rattle.std.proofs.Common.{◌≡◌, Bool, true, false, not, ◌&&◌, Option, Some, None, MatchOption, is_some, List, []}
use Rattle.std.proofs.Common.{◌∷◌, ◌++◌, length, suc, refl, sym, ap, ◌∙◌, string_cmp, String, Global, string_bytes}
use Rattle.std.specs.Cmp.Lexicographic.{pointwise}
use mathlib.Core.Bool.{false≢true}
use Rattle.elasticlunr_json.specs.EqualMaps.{both_true}
use Rattle.elasticlunr_error.specs.Text.{Bytes}
use Rattle.std.specs.List.Sorted.{IsStrictlySortedBy}
use Rattle.std.specs.Map.{keys_of}
use Rattle.std.specs.FinMap as finite
use Rattle.elasticlunr_json.specs.Maps.{seen}
use Rattle.elasticlunr_json.proofs.Sorted.{shown, entries_seen}

falls : (a b : Bool) → false ≡ b → false ≡ (a && b)
falls true b e = e
falls false b e = refl

module _ {X Y : Type 0} (f : X → Y) (E : Bytes × Y → Bytes × Y → Bool) where
  -- a test of what entries represent
  pub pointwise_shown : (es fs : List (String Global × X))
      → pointwise (λ p q. E (string_bytes p.0, f p.1) (string_bytes q.0, f q.1)) es fs
      ≡ pointwise E (shown f es) (shown f fs)
  pointwise_shown [] [] = refl
  pointwise_shown [] (q ∷ fs) = refl
  pointwise_shown (p ∷ es) [] = refl
  pointwise_shown (p ∷ es) (q ∷ fs) = ap (λ b. E (string_bytes p.0, f p.1) (string_bytes q.0, f q.1) && b)
      (pointwise_shown es fs)

  pub apart_shown : (es fs : List (String Global × X)) → ¬ (length es ≡ length fs) → false
      ≡ pointwise E (shown f es) (shown f fs)
  apart_shown [] [] h = absurd (h refl)
  apart_shown [] (q ∷ fs) h = refl
  apart_shown (p ∷ es) [] h = refl
  apart_shown (p ∷ es) (q ∷ fs) h = falls (E (string_bytes p.0, f p.1) (string_bytes q.0, f q.1)) _
      (apart_shown es fs (λ e. h (ap suc e)))

  -- after entries that are the same
  pub front : (es fs r s : List (String Global × X)) → pointwise E (shown f es) (shown f fs) ≡ true
      → pointwise E (shown f (es ++ r)) (shown f (fs ++ s)) ≡ pointwise E (shown f r) (shown f s)
  front [] [] r s e = refl
  front [] (q ∷ fs) r s e = absurd (false≢true e)
  front (p ∷ es) [] r s e = absurd (false≢true e)
  front (p ∷ es) (q ∷ fs) r s e = let parts = both_true (E (string_bytes p.0, f p.1) (string_bytes q.0, f q.1))
      (pointwise E (shown f es) (shown f fs)) e in λ i. parts.0 i && front es fs r s parts.1 i

  -- what is left decides, where the front is the same
  pub rest_decides : (all bll es fs r s : List (String Global × X)) → IsStrictlySortedBy string_cmp (keys_of all)
      → IsStrictlySortedBy string_cmp (keys_of bll) → es ++ r ≡ all → fs ++ s ≡ bll
      → pointwise E (shown f es) (shown f fs) ≡ true
      → pointwise E (shown f r) (shown f s) ≡ pointwise E (finite.entries (seen f all)) (finite.entries (seen f bll))
  rest_decides all bll es fs r s sa sb a b e = sym (front es fs r s e)
      ∙ (λ i. pointwise E (shown f (a i)) (shown f (b i)))
      ∙ (λ i. pointwise E (sym (entries_seen f all sa) i) (sym (entries_seen f bll sb) i))

pub first_false : (a b d : Bool) → a ≡ false → false ≡ ((a && b) && d)
first_false a b d e = λ i. (sym e i && b) && d

pub second_false : (a b d : Bool) → a ≡ true → b ≡ false → false ≡ ((a && b) && d)
second_false a b d e g = λ i. (sym e i && sym g i) && d

pub not_so : (a b : Bool) → a ≡ not b → a ≡ true → b ≡ false
not_so a true e h = sym h ∙ e
not_so a false e h = refl

pub so : (a b : Bool) → a ≡ not b → a ≡ false → b ≡ true
so a true e h = refl
so a false e h = sym h ∙ e

-- none is left exactly if the iterator has no more
pub none_left : {X Y A : Type 0} (f : X → Y) (E : Bytes × Y → Bytes × Y → Bool) (shows : A → String Global × X)
    (n : Bool) (o : Option A) (others rest : List (String Global × X))
    → MatchOption o ((others ≡ []) × (rest ≡ [])) (λ x. others ≡ shows x ∷ rest) → is_some o ≡ not n → n
    ≡ pointwise E [] (shown f others)
none_left f E shows n None others rest h e = so false n e refl ∙ ap (λ es. pointwise E [] (shown f es)) (sym h.0)
none_left f E shows n (Some x) others rest h e = not_so true n e refl ∙ ap (λ es. pointwise E [] (shown f es)) (sym h)
