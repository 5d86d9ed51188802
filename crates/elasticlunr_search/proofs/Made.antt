-- On what a call makes or refuses.
use Rattle.std.proofs.Common.{Result, Ok, Err, IfOk, Option, Some, None, IfSome}

-- two facts of what was made, and a third that follows
pub IfOk-both : {T E : Type 0} (r : Result T E) (P Q R : T → Type 0) → ((x : T) → P x → Q x → R x) → IfOk r P → IfOk r Q
    → IfOk r R
IfOk-both (Ok x) P Q R then p q = then x p q
IfOk-both (Err e) P Q R then p q = tt

pub IfSome-weaker : {T : Type 0} (o : Option T) (P Q : T → Type 0) → ((x : T) → P x → Q x) → IfSome o P → IfSome o Q
IfSome-weaker (Some x) P Q then p = then x p
IfSome-weaker None P Q then p = tt
