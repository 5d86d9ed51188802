-- Lists of names.
use Rattle.std.proofs.Common.{◌≡◌, ◌<◌, ℕ, zero, suc, List, [], ◌∷◌, ◌++◌, length, arith, Some, option_map, map, Bool}
use Rattle.std.proofs.Common.{true, false, not, ◌&&◌, ◌||◌, true≢false, String, Global, string_bytes, bytes_eq, refl}
use Rattle.std.proofs.Common.{sym, ap, ◌∙◌}
use Rattle.std.specs.List.{slice_get}
use Rattle.std.proofs.lemmas.Slice.Eq.{bytes_eq-Decides}
use Rattle.elasticlunr_error.specs.Text.{Bytes}
use Rattle.elasticlunr_commands.specs.Fields.{has_name, all_differ}

-- the test goes both ways
pub turned : (x y : Bytes) (b : Bool) → bytes_eq x y ≡ b → bytes_eq y x ≡ b
turned x y true e = (bytes_eq-Decides y x).1 (sym ((bytes_eq-Decides x y).0 e))
turned x y false e = elim (bytes_eq y x) as (λ b. bytes_eq y x ≡ b → b ≡ false) [
  | true ↦ λ k. absurd (true≢false (sym ((bytes_eq-Decides x y).1 (sym ((bytes_eq-Decides y x).0 k))) ∙ e))
  | false ↦ λ _. refl
] refl

pub both_false : (a b : Bool) → (a || b) ≡ false → (a ≡ false) × (b ≡ false)
both_false true b e = absurd (true≢false e)
both_false false b e = (refl, e)

pub both_true : (a b : Bool) → (a && b) ≡ true → (a ≡ true) × (b ≡ true)
both_true true b e = (refl, e)
both_true false b e = absurd (true≢false (sym e))

has_name-push : (names : List Bytes) (last name : Bytes) → has_name name names ≡ false → bytes_eq last name ≡ false
    → has_name name (names ++ last ∷ []) ≡ false
has_name-push [] last name none e = ap (λ b. b || false) e
has_name-push (other ∷ names) last name none e =
    let parts = both_false _ _ none in
    ap (λ b. b || has_name name (names ++ last ∷ [])) parts.0 ∙ has_name-push names last name parts.1 e

-- a new name at the end
pub all_differ-push : (names : List Bytes) (name : Bytes) → all_differ names ≡ true → has_name name names ≡ false
    → all_differ (names ++ name ∷ []) ≡ true
all_differ-push [] name differ none = refl
all_differ-push (first ∷ names) name differ none =
    let apart = both_false _ _ none in
    let parts = both_true _ _ differ in
    let first_new : has_name first (names ++ name ∷ [])
    ≡ false = has_name-push names name first (flip (has_name first names) parts.0)
    (turned first name false apart.0) in
    ap (λ b. not b && all_differ (names ++ name ∷ [])) first_new ∙ all_differ-push names name parts.1 apart.1 where
      flip : (b : Bool) → not b ≡ true → b ≡ false
      flip true e = absurd (true≢false (sym e))
      flip false e = refl

-- the names, with one more at the end
pub names_push : (strings : List (String Global)) (s : String Global) (name : Bytes) → string_bytes s ≡ name
    → map string_bytes (strings ++ s ∷ []) ≡ map string_bytes strings ++ name ∷ []
names_push [] s name e = ap (λ n. n ∷ []) e
names_push (t ∷ strings) s name e = ap (λ ns. string_bytes t ∷ ns) (names_push strings s name e)

-- a name is found within the list
pub within : (strings : List (String Global)) (k : ℕ) (name : Bytes) → option_map string_bytes (slice_get strings k)
    ≡ Some name → k < length strings
within [] k name is = cc (is)
within (s ∷ strings) zero name is = omega arith
within (s ∷ strings) (suc k) name is = let later : k < length strings = within strings k name is in omega (arith, later)
