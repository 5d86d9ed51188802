use Rattle.std.proofs.Common.{◌≡◌, Bool, true, false, true≢false, refl, sym}
use Rattle.elasticlunr_search.proofs.tries.references_of.Goals as goal

-- tests that hold together are one
same_test : (a b : Bool) → (a ≡ true → b ≡ true) → (b ≡ true → a ≡ true) → a ≡ b
same_test true b to from = sym (to refl)
same_test false true to from = absurd (true≢false (sym (from refl)))
same_test false false to from = refl

pub returns-in-Ok-clause-listed : goal.returns-in-Ok-clause-listed
returns-in-Ok-clause-listed c r = same_test _ _ (c.in-Ok.ensures.listed r).0 (c.in-Ok.ensures.listed r).1
