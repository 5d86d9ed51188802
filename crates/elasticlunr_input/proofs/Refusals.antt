-- Why there is no index.
use Rattle.std.proofs.Common.{◌≡◌, Result, Ok, Err, IfErr, IsErrAnd, sym, subst}
use Rattle.elasticlunr_diagnostics.specs.Messages.{IsMemoryOr}
use Rattle.elasticlunr_diagnostics.specs.declared.message.InputError.{InputError}
use Rattle.elasticlunr_diagnostics.specs.declared.message.InputError.TheVariants.{Refused, Memory, Device}
use Rattle.elasticlunr_diagnostics.specs.declared.message.InputError.TheVariants.{TooManyLines}

pub for_reason : (A B : Type 0) (e : InputError) → (A → B) → IsMemoryOr A e → IsMemoryOr B e
for_reason A B Memory more is = tt
for_reason A B (Device failed) more is = is
for_reason A B TooManyLines more is = is
for_reason A B (Refused message) more is = more is

-- a reason that follows from another one
pub refused_for : (A B : Type 0) {T : Type 0} (r : Result T InputError) → (A → B) → IfErr r (IsMemoryOr A)
    → IfErr r (IsMemoryOr B)
refused_for A B (Ok x) more is = tt
refused_for A B (Err e) more is = for_reason A B e more is

-- and where the trouble is that of a call
pub refused_again : (A B : Type 0) {T : Type 0} (e : InputError) (r : Result T InputError) → (A → B)
    → IsErrAnd r (λ x. x ≡ e) → IsMemoryOr A e → IfErr r (IsMemoryOr B)
refused_again A B e (Ok x) more same is = tt
refused_again A B e (Err x) more same is = for_reason A B x more (subst (IsMemoryOr A) (sym same) is)
