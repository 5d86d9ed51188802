-- Numbered names differ, so of more names than fields one is no field.
use Rattle.std.proofs.Common.{◌≡◌, ◌+◌, ◌<◌, ◌++◌, ◌∷◌, ◌==◌, ◌^◌, ℕ, zero, suc, Bool, true, false, List, []}
use Rattle.std.proofs.Common.{None, Some, cond, length, map, not, refl, sym, ap, ◌∙◌, arith, codes}
use Rattle.std.proofs.Common.{◌||◌, if◌then◌else◌, append-nil}
use mathlib.Core.Bool.{false≢true}
use Rattle.std.specs.Fmt.{decimal}
use Rattle.std.specs.Cmp.{IsEquivalence}
use Rattle.std.specs.List.{find, range_with_len, list_any, AllByRecursion, IsDistinct}
use Rattle.std.specs.Str.{bytes_eq}
use Rattle.std.proofs.lemmas.Bool.{not-false}
use Rattle.std.proofs.lemmas.Option.{none-some}
use Rattle.std.proofs.lemmas.Fmt.{decimal_injective, decimal_nonempty}
use Rattle.std.proofs.lemmas.List.{append_cancel_left}
use Rattle.std.proofs.lemmas.List.FromFn.{length-map-range_with_len}
use Rattle.std.proofs.lemmas.Map.Made.{length-le_from_is_member}
use Rattle.std.proofs.lemmas.Slice.Eq.{bytes_eq-Decides}
use Rattle.elasticlunr_text.specs.Text.{Bytes}
use Rattle.elasticlunr.specs.Fields.{has_name}
use Rattle.elasticlunr_input.specs.References.{numbered_name}

not_one : (n : ℕ) → 1 < n → (n == 1) ≡ false
not_one n high = grind arith

is_one : (n : ℕ) → (n == 1) ≡ true → n ≡ 1
is_one n is = grind arith

later_name : (n : ℕ) → (n == 1) ≡ false → numbered_name n ≡ codes "id" ++ decimal n
later_name n is = ap (λ b. if b then codes "id" else codes "id" ++ decimal n) is

first_name : (n : ℕ) → (n == 1) ≡ true → numbered_name n ≡ codes "id"
first_name n is = ap (λ b. if b then codes "id" else codes "id" ++ decimal n) is

differ : (m n : ℕ) (b : Bool) → (m == 1) ≡ b → m < n → 0 < m → n < 2 ^ 64 → numbered_name m ≡ numbered_name n → ⊥
differ m n true first less low fits same =
    let both : codes "id" ++ [] ≡ codes "id" ++ decimal n = append-nil (codes "id") ∙ sym (first_name m first) ∙ same
    ∙ later_name n (not_one n (omega (arith, less, low))) in
    let none : [] ≡ decimal n = append_cancel_left (codes "id") [] (decimal n) both in
    let some = decimal_nonempty n fits in
    absurd (omega (arith, some, ap length none))
differ m n false other less low fits same =
    let both : codes "id" ++ decimal m ≡ codes "id" ++ decimal n = sym (later_name m other) ∙ same
    ∙ later_name n (not_one n (omega (arith, less, low))) in
    let equal = decimal_injective m n (omega (arith, less, fits)) fits (append_cancel_left (codes "id") (decimal m) (decimal n) both) in
    absurd (omega (arith, less, equal))

apart : (x y : Bytes) → (x ≡ y → ⊥) → (b : Bool) → bytes_eq x y ≡ b → b ≡ false
apart x y differ true is = absurd (differ ((bytes_eq-Decides x y).0 is))
apart x y differ false is = refl

-- a name is none of those of higher numbers
none_later : (m a n : ℕ) → 0 < m → m < a → a + n < 2 ^ 64
    → AllByRecursion (λ y. bytes_eq (numbered_name m) y ≡ false) (map numbered_name (range_with_len a n))
none_later m a zero low less fits = tt
none_later m a (suc n) low less fits = (
  apart (numbered_name m) (numbered_name a) (differ m a (m == 1) refl less low (omega (arith, fits))) _ refl,
  none_later m (a + 1) n low (omega (arith, less)) (omega (arith, fits)),
)

all_distinct : (a n : ℕ) → 0 < a → a + n < 2 ^ 64 → IsDistinct bytes_eq (map numbered_name (range_with_len a n))
unfolding IsDistinct
all_distinct a zero low fits = tt
all_distinct a (suc n) low fits = (
  none_later a (a + 1) n low (omega arith) (omega (arith, fits)),
  all_distinct (a + 1) n (omega arith) (omega (arith, fits)),
)

same_by : (x y : Bytes) (b : Bool) → bytes_eq x y ≡ b → bytes_eq x y ≡ bytes_eq y x
same_by x y true is = is ∙ sym ((bytes_eq-Decides y x).1 (sym ((bytes_eq-Decides x y).0 is)))
same_by x y false is = is ∙ sym (apart y x (λ same. false≢true (sym is ∙ (bytes_eq-Decides x y).1 (sym same))) _ refl)

equivalence : IsEquivalence bytes_eq
equivalence = record {
  refl = λ x. (bytes_eq-Decides x x).1 refl;
  symm = λ x y. same_by x y _ refl;
  congr = λ x y z same. ap (λ w. bytes_eq w z) ((bytes_eq-Decides x y).0 same);
}

-- what is a field by its name is one
listed : (q : Bytes) (fields : List Bytes) → not (has_name q fields) ≡ false → list_any (bytes_eq q) fields ≡ true
listed q fields is = (λ i. list_any (λ other. same_by q other _ refl i) fields) ∙ not-false _ is

-- where no name of a list passes a test, none that it has does
passes_by : (p : Bytes → Bool) (name : Bytes) (names : List Bytes) → ((q : Bytes)
    → find p names ≡ None → list_any (bytes_eq q) names ≡ true → p q ≡ false)
    → (q : Bytes) (passes equal : Bool) → p name ≡ passes → bytes_eq q name ≡ equal
    → cond passes (Some name) (find p names) ≡ None → (equal || list_any (bytes_eq q) names) ≡ true → p q ≡ false
passes_by p name names rest q true equal is same none has = absurd (none-some name (sym none))
passes_by p name names rest q false true is same none has = ap p ((bytes_eq-Decides q name).0 same) ∙ is
passes_by p name names rest q false false is same none has = rest q none has

none_passes : (p : Bytes → Bool) (names : List Bytes) (q : Bytes) → find p names ≡ None
    → list_any (bytes_eq q) names ≡ true → p q ≡ false
none_passes p [] q none has = absurd (false≢true has)
none_passes p (name ∷ names) q none has =
    passes_by p name names (none_passes p names) q (p name) (bytes_eq q name) refl refl none has

-- of more numbered names than fields one is no field
pub one_is_free : (fields : List Bytes) → length fields + 2 < 2 ^ 64
    → find (λ name. not (has_name name fields)) (map numbered_name (range_with_len 1 (length fields + 1))) ≡ None → ⊥
one_is_free fields fits none =
    let names = map numbered_name (range_with_len 1 (length fields + 1)) in
    let few = length-le_from_is_member equivalence names fields (all_distinct 1 (length fields + 1) (omega arith)
    (omega (arith, fits))) (λ q has. listed q fields (none_passes (λ name. not (has_name name fields)) names q none has)) in
    absurd (omega (arith, few, length-map-range_with_len numbered_name 1 (length fields + 1)))
