-- What an update leaves current.
use Rattle.std.proofs.Common.{◌≡◌, Bool, true, false, cond, Option, None, refl}

-- what was removed, or put again, does not show
pub after_update : {X : Type 0} (s c g : Bool) (stays old dropped new : Option X) → (s ≡ true → g ≡ true → ⊥)
    → (c ≡ true → g ≡ true → ⊥)
    → cond g None (cond c new (cond g dropped (cond c old (cond s stays None)))) ≡ cond c new (cond s stays None)
after_update s true true stays old dropped new sg cg = absurd (cg refl refl)
after_update true false true stays old dropped new sg cg = absurd (sg refl refl)
after_update false false true stays old dropped new sg cg = refl
after_update s true false stays old dropped new sg cg = refl
after_update s false false stays old dropped new sg cg = refl
