-- What the exit of a `?` returns.
use Rattle.std.proofs.Common.{◌≡◌, Result}
use Rattle.std.specs.Result.{IfErr, IsErrAnd}
use Rattle.std.proofs.lemmas.Result.{err_from_is_err_and}
use Rattle.elasticlunr_flat.specs.declared.fault.FlatError.{FlatError}
use Rattle.elasticlunr_flat.specs.declared.fault.FlatError.TheVariants.{Malformed, Memory}
use Rattle.elasticlunr_flat.specs.Reading.{IsMemoryOr}

IsMemoryOr-weaker : (P Q : Type 0) (e : FlatError) → (P → Q) → IsMemoryOr P e → IsMemoryOr Q e
IsMemoryOr-weaker P Q Malformed f reason = f reason
IsMemoryOr-weaker P Q Memory f reason = tt

-- the error of a call is passed on, and its reason leads to another
pub at_exit : {T : Type 0} (r : Result T FlatError) (P Q : Type 0) (e : FlatError) → IsErrAnd r (λ y. y ≡ e) → (P → Q)
    → IsMemoryOr P e → IfErr r (IsMemoryOr Q)
at_exit r P Q e is f reason =
    let p = err_from_is_err_and r is in
    rw (p.1, p.2) (IsMemoryOr-weaker P Q e f reason)

-- the error of a call is returned as malformed bytes, for this reason
pub at_malformed : {T : Type 0} (r : Result T FlatError) (Q : Type 0) → IsErrAnd r (λ y. y ≡ Malformed) → Q
    → IfErr r (IsMemoryOr Q)
at_malformed r Q is reason = at_exit r (Unit {0}) Q Malformed is (λ _. reason) tt
