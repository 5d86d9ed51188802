-- Texts that differ.
use Rattle.std.proofs.Common.{◌≡◌, ◌≢◌, [], ◌∷◌, IsTrue, Bool, true, false, cond, not, ◌&&◌, ◌||◌, Option, None}
use Rattle.std.proofs.Common.{bytes_eq, refl, sym, ap, ◌∙◌}
use Rattle.std.proofs.lemmas.Slice.Eq.{bytes_eq-Decides}
use Rattle.elasticlunr.specs.Text.{Bytes}
use Rattle.elasticlunr.specs.Fields.{all_differ}

-- other texts are not equal
pub unequal : (r s : Bytes) → r ≢ s → bytes_eq r s ≡ false
unequal r s apart = by_test (bytes_eq r s) refl where
  by_test : (b : Bool) → bytes_eq r s ≡ b → b ≡ false
  by_test true is = absurd (apart ((bytes_eq-Decides r s).0 is))
  by_test false is = refl

-- a text does not equal two others
pub not_both : (q r s : Bytes) → r ≢ s → bytes_eq q r ≡ true → bytes_eq q s ≡ true → ⊥
not_both q r s apart one other = apart (sym ((bytes_eq-Decides q r).0 one) ∙ (bytes_eq-Decides q s).0 other)

pub two_differ : (r s : Bytes) → r ≢ s → IsTrue (all_differ (r ∷ s ∷ []))
two_differ r s apart = ap (λ b. not (b || false) && (not false && true)) (unequal s r (λ e. apart (sym e)))

-- what two texts are given, in the one order and in the other
pub either_order : {X : Type 0} (a b : Bool) (x y : Option X) → (a ≡ true → b ≡ true → ⊥) → cond b y (cond a x None)
    ≡ cond a x (cond b y None)
either_order true true x y apart = absurd (apart refl refl)
either_order true false x y apart = refl
either_order false b x y apart = refl
