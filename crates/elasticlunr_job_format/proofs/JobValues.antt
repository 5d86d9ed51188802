-- Arrays among the values.
use Rattle.std.proofs.Common.{◌≡◌, ◌≢◌, ◌<◌, ◌≤◌, ℕ, zero, suc, List, [], ◌∷◌, length, map, take, get_or, Any, Bor}
use Rattle.std.proofs.Common.{Option, Some, None, IfSome, IsSomeAnd, unwrap_or, refl, sym, ap, subst, ◌∙◌, ◌==◌, false}
use Rattle.std.proofs.Common.{true≢false, arith}
use Rattle.std.specs.List.{remove}
use Rattle.std.proofs.lemmas.List.{take_all, length-map, get_or-map}
use Rattle.elasticlunr_json.proofs.ReadingMaps.{array_of}
use Rattle.serde_json.specs.Data.{Data, string, array, Items, no_items, item}
use Rattle.serde_json.specs.Find.{as_array}
use Rattle.serde_json.specs.View.{view, items_of, items_view}
use Rattle.serde_json.specs.declared.value.Value.{Value}

-- the items of an array
abbrev list_of_items : Items → List Data
list_of_items no_items = []
list_of_items (item d ds) = d ∷ list_of_items ds

abbrev list_of : Data → List Data
list_of (array ds) = list_of_items ds
list_of _ = []

listed : (ds : List Data) → list_of_items (items_of ds) ≡ ds
listed [] = refl
listed (d ∷ ds) = ap (λ es. d ∷ es) (listed ds)

-- equal arrays have equal items
pub same_items : (ds es : List Data) → array (items_of ds) ≡ array (items_of es) → ds ≡ es
same_items ds es e = sym (listed ds) ∙ ap list_of e ∙ listed es

-- where each item was seen to have its form
pub all_items : {X : Type 0} (form : X → Data) (d : Data) (vs ws : List Value) (i : ℕ) (xs : List X)
    → Some (items_view vs) ≡ as_array d → ws ≡ vs → length ws ≤ i → map view (take i ws) ≡ map form xs → d
    ≡ array (items_of (map form xs))
all_items form d vs ws i xs is same past seen =
    array_of d (items_view vs) is ∙ ap (λ ds. array (items_of ds))
    (ap (λ us. map view us) (sym same ∙ sym (take_all i ws past)) ∙ seen)

-- where an item is another thing
pub some_other : (IsOther : Data → Type 0) (d : Data) (vs ws : List Value) (i : ℕ) (v : Value) → Some (items_view vs)
    ≡ as_array d → ws ≡ vs → i < length ws → v ≡ get_or ws i v → IsOther (view v) → (items : List Data) → d
    ≡ array (items_of items) → Any IsOther items
some_other IsOther d vs ws i v is same lt at other items e =
    subst (Any IsOther) (ap (λ us. map view us) same
    ∙ same_items (map view vs) items (sym (array_of d (items_view vs) is) ∙ e)) (
      i,
      view v,
      subst (λ n. i < n) (sym (length-map ws view)) lt,
      get_or-map view ws i v (view v) lt
          ∙ ap view (sym at),
      other,
    )

none_other : {X : Type 0} (form : X → Data) (xs : List X) → Any (λ d. (x : X) → d ≢ form x) (map form xs) → ⊥
none_other form [] (i, d, lt, is, other) = absurd (omega (arith, lt))
none_other form (x ∷ xs) (zero, d, lt, is, other) = other x (sym is)
none_other form (x ∷ xs) (suc i, d, lt, is, other) = none_other form xs (i, d, omega (arith, lt), is, other)

abbrev Unlisted : {X : Type 0} → (X → Data) → Data → Type 0
Unlisted form d = (items : List Data) → d ≡ array (items_of items) → Any (λ item. (x : _) → item ≢ form x) items

-- an array of what has the form has no item that is another thing
pub not_listed : {X : Type 0} (form : X → Data) (d : Data) (xs : List X) → Unlisted form d
    → d ≢ array (items_of (map form xs))
not_listed form d xs other e = none_other form xs (other (map form xs) e)

pub not_required : {X : Type 0} (form : X → Data) (o : Option Data) (xs : List X) → IfSome o (Unlisted form)
    → o ≢ Some (array (items_of (map form xs)))
not_required form o xs other e = not_listed form (array (items_of (map form xs))) xs
    (subst (λ p. IfSome p (Unlisted form)) e other) refl

pub not_given : {X : Type 0} (form : X → Data) (o : Option Data) (absent : Data) (xs : List X)
    → IsSomeAnd o (Unlisted form) → unwrap_or o absent ≢ array (items_of (map form xs))
not_given form None absent xs other e = absurd other
not_given form (Some d) absent xs other e = not_listed form d xs other e

-- what is there, and of another form, is not what was given
pub other_given : {X : Type 0} (form : X → Data) (o : Option Data) (absent : Data) (x : X)
    → IsSomeAnd o (λ d. (y : X) → d ≢ form y) → unwrap_or o absent ≢ form x
other_given form None absent x other e = absurd other
other_given form (Some d) absent x other e = other x e

pub map-map : {X Y Z : Type 0} (f : X → Y) (g : Y → Z) (xs : List X) → map g (map f xs) ≡ map (λ x. g (f x)) xs
map-map f g [] = refl
map-map f g (x ∷ xs) = ap (λ ys. g (f x) ∷ ys) (map-map f g xs)

-- the document whose reference was taken off the front of these texts
pub document_from : (d : Data) (texts_read rest : List (Bor (List ℕ))) (reference : Bor (List ℕ)) → d
    ≡ array (items_of (map (λ s. string s.now) texts_read)) → (length texts_read == 0) ≡ false → reference
    ≡ get_or texts_read 0 reference → rest ≡ remove texts_read 0
    → d ≡ array (items_of (map string (reference.now ∷ map (λ s. s.now) rest)))
document_from d [] rest reference is some first others = absurd (true≢false some)
document_from d (s ∷ ss) rest reference is some first others =
    is ∙ (ap (λ r. array (items_of (string r.now ∷ map (λ s. string s.now) ss))) (sym first)
    ∙ ap (λ ts. array (items_of (string reference.now ∷ ts))) (sym (map-map (λ s. s.now) string ss)
    ∙ ap (λ rs. map string (map (λ s. s.now) rs)) (sym others)))
