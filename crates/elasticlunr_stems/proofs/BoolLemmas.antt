-- Tests that are true or false.
use Rattle.std.proofs.Common.{◌≡◌, ℕ, ◌≤◌, ◌<◌, Bool, true, false, IsTrue, refl, sym, arith, true≢false}
use Rattle.std.specs.Prelude.{nat_lt, nat_le, ◌&&◌}
use Rattle.std.proofs.lemmas.Bool.Decides.{nat_tests}

pub false≢true : false ≡ true → ⊥
false≢true h = true≢false (sym h)

pub and-left : (a b : Bool) → IsTrue (a && b) → IsTrue a
and-left true b h = refl
and-left false b h = h

pub and-right : (a b : Bool) → IsTrue (a && b) → IsTrue b
and-right true b h = h
and-right false b h = absurd (false≢true h)

pub le-test : (m n : ℕ) → IsTrue (nat_le m n) → m ≤ n
le-test m n h = grind (arith, nat_tests)

pub lt-fails : (m n : ℕ) → n ≤ m → nat_lt m n ≡ false
lt-fails m n h = grind (arith, nat_tests)

pub le-holds : (m n : ℕ) → m ≤ n → nat_le m n ≡ true
le-holds m n h = grind (arith, nat_tests)

pub le-fails : (m n : ℕ) → n < m → nat_le m n ≡ false
le-fails m n h = grind (arith, nat_tests)

pub and-false : (b : Bool) → (b && false) ≡ false
and-false true = refl
and-false false = refl
