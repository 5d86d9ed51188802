-- What the exit of a `?` returns.
use Rattle.std.proofs.Common.{◌≡◌, inl, inr, Result, sym, subst}
use Rattle.std.specs.Result.{IfErr, IsErrAnd}
use Rattle.std.proofs.lemmas.Result.{err_from_is_err_and}
use Rattle.elasticlunr_search.specs.Refusal.{StopsBy}
use Rattle.elasticlunr_search.specs.declared.error.SearchError.{SearchError}
use Rattle.elasticlunr_search.specs.declared.error.SearchError.TheVariants.{Memory}

weaker : (refusal : SearchError) (P Q : Type 0) (e : SearchError) → (P → Q) → StopsBy refusal P e → StopsBy refusal Q e
weaker refusal P Q e f h = elim h [ inl m ↦ inl m | inr p ↦ inr (p.0, f p.1) ]

-- the exit of a call that stops by the same refusal
pub at_exit : {T : Type 0} (r : Result T SearchError) (refusal : SearchError) (P Q : Type 0) (e : SearchError)
    → IsErrAnd r (λ y. y ≡ e) → (P → Q) → StopsBy refusal P e → IfErr r (StopsBy refusal Q)
at_exit r refusal P Q e is f h =
    let p = err_from_is_err_and r is in
    rw (p.1, p.2) (weaker refusal P Q e f h)

-- the exit of a call by one refusal, where others may come
pub by_exit : {T : Type 0} (r : Result T SearchError) (R : SearchError → Type 0) (refusal : SearchError) (P : Type 0)
    (e : SearchError) → IsErrAnd r (λ y. y ≡ e) → R Memory → (P → R refusal) → StopsBy refusal P e → IfErr r R
by_exit r R refusal P e is memory f h =
    let p = err_from_is_err_and r is in
    rw (p.1, p.2) (elim h [ inl m ↦ subst R (sym m) memory | inr q ↦ subst R (sym q.0) (f q.1) ])

-- the exit of a call for out of memory
pub memory_exit : {T : Type 0} (r : Result T SearchError) (R : SearchError → Type 0) → IsErrAnd r (λ y. y ≡ Memory)
    → R Memory → IfErr r R
memory_exit r R is memory =
    let p = err_from_is_err_and r is in
    rw (p.1, p.2) memory

-- the exit of a call by what its error is told as
pub told_exit : {T E : Type 0} (r : Result T E) (P : E → Type 0) (e : E) → IsErrAnd r (λ y. y ≡ e) → P e → IfErr r P
told_exit r P e is p =
    let q = err_from_is_err_and r is in
    rw (q.1, q.2) p
