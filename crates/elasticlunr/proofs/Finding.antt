-- Names, found in lists of names.
use Rattle.std.proofs.Common.{◌≡◌, ◌<◌, ◌↔◌, ℕ, zero, suc, List, [], ◌∷◌, length, arith, get_or, Bool, true, false}
use Rattle.std.proofs.Common.{true≢false, ◌||◌, Option, Some, option_map, IsTrue, String, Global, string_bytes}
use Rattle.std.proofs.Common.{bytes_eq, refl, sym, ap, ◌∙◌}
use Rattle.std.proofs.lemmas.Slice.Eq.{bytes_eq-Decides}
use Rattle.std.proofs.lemmas.Option.{slice_get_read, slice_get-map}
use Rattle.std.specs.String.{string_eq}
use Rattle.std.specs.List.{slice_get}
use Rattle.elasticlunr_text.specs.Text.{Bytes, bytes_of}
use Rattle.elasticlunr_commands.specs.Fields.{has_name}

-- the test of the text that is found tells whether that is the wanted one
pub named : (name wanted : Bytes) (found : Option Bytes) (b : Bool) → found ≡ Some name → b ≡ bytes_eq name wanted
    → IsTrue b ↔ (found ≡ Some wanted)
named name wanted found true is e = (λ _. is ∙ ap Some ((bytes_eq-Decides name wanted).0 (sym e)), λ _. refl)
named name wanted found false is e = (
  λ h. absurd (true≢false (sym h)),
  λ same. absurd (true≢false (sym ((bytes_eq-Decides name wanted).1 (cc (is, same))) ∙ sym e)),
)

-- the bytes of the string at this place
pub name_at : (names : List (String Global)) (i : ℕ) (name : String Global) → i < length names → name
    ≡ get_or names i name → slice_get (bytes_of names) i ≡ Some (string_bytes name)
name_at names i name inside read = slice_get-map string_bytes names i
    ∙ ap (option_map string_bytes) (slice_get_read names (length names) i name refl inside read)

-- `==` of the string at this place
pub same_name : (names : List (String Global)) (i : ℕ) (name wanted : String Global) (b : Bool) → i < length names
    → name ≡ get_or names i name → b ≡ string_eq name wanted
    → IsTrue b ↔ (slice_get (bytes_of names) i ≡ Some (string_bytes wanted))
same_name names i name wanted b inside read e = named (string_bytes name) (string_bytes wanted) _ b
    (name_at names i name inside read) e

-- a name that stands in the list is found
pub name_there : (names : List Bytes) (name : Bytes) (i : ℕ) → slice_get names i ≡ Some name → has_name name names
    ≡ true
name_there [] name i is = cc (is)
name_there (other ∷ names) name zero is = ap (λ b. b || has_name name names) ((bytes_eq-Decides other name).1 (cc (is)))
name_there (other ∷ names) name (suc i) is = ap (λ b. bytes_eq other name || b) (name_there names name i is)
    ∙ or_true (bytes_eq other name) where
      or_true : (b : Bool) → (b || true) ≡ true
      or_true true = refl
      or_true false = refl

-- a name that stands nowhere is not found
pub name_absent : (names : List Bytes) (name : Bytes) → ((i : ℕ) → i < length names → ¬ (slice_get names i ≡ Some name))
    → has_name name names ≡ false
name_absent [] name none = refl
name_absent (other ∷ names) name none = both (bytes_eq other name) refl
    (name_absent names name (λ i inside. none (suc i) (omega (arith, inside)))) where
      both : (b : Bool) → bytes_eq other name ≡ b → has_name name names ≡ false
          → (bytes_eq other name || has_name name names) ≡ false
      both true e later = absurd (none zero (omega arith) (ap Some ((bytes_eq-Decides other name).0 e)))
      both false e later = ap (λ b. b || has_name name names) e ∙ later
