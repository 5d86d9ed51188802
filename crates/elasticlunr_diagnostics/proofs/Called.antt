-- On the language that is asked for.
use Rattle.std.proofs.Common.{◌≡◌, ◌↔◌, Bool, true, false, IsTrue, map, refl, sym}
use Rattle.std.specs.Char.{to_ascii_lowercase}
use Rattle.std.proofs.lemmas.Slice.Eq.{bytes_eq-Decides}
use Rattle.elasticlunr_text.specs.Text.{Bytes}
use Rattle.elasticlunr_diagnostics.specs.Called.{same_but_for_case}

alike : (a b : Bool) → (a ≡ true → b ≡ true) → (b ≡ true → a ≡ true) → a ≡ b
alike true b there back = sym (there refl)
alike false true there back = back refl
alike false false there back = refl

-- the test of std is that of the definition
pub same_tested : (text other : Bytes) (r : Bool)
    → (IsTrue r ↔ (map to_ascii_lowercase text ≡ map to_ascii_lowercase other)) → r ≡ same_but_for_case text other
same_tested text other r test =
    let both = bytes_eq-Decides (map to_ascii_lowercase text) (map to_ascii_lowercase other) in
    alike r (same_but_for_case text other) (λ e. both.1 (test.0 e)) (λ e. test.1 (both.0 e))
