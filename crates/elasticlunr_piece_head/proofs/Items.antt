-- Arrays, read item by item.
use Rattle.std.proofs.Common.{◌≡◌, ◌<◌, ◌≤◌, ◌+◌, ℕ, zero, suc, List, [], ◌∷◌, ◌++◌, length, take, get_or, Option, Some, String, Global}
use Rattle.std.proofs.Common.{string_bytes, refl, sym, ap, ◌∙◌, arith}
use Rattle.std.proofs.lemmas.List.{take_all, take_more}
use Rattle.serde_json.specs.Data.{Data, no_items, item, string}
use Rattle.serde_json.specs.View.{view, items_view}
use Rattle.serde_json.specs.declared.value.Value.{Value}
use Rattle.elasticlunr_error.specs.Text.{Bytes, bytes_of}
use Rattle.elasticlunr_piece_head.specs.Values.{array_of, items_of}

pub items_push : {A : Type 0} (value : A → Data) (vs : List Value) (v : Value) (xs : List A) (x : A)
    → items_view vs ≡ items_of value xs → view v ≡ value x
    → items_view (vs ++ v ∷ []) ≡ items_of value (xs ++ x ∷ [])
items_push value [] v [] x e is = ap (λ d. item d no_items) is
items_push value [] v (y ∷ xs) x e is = cc (e)
items_push value (w ∷ vs) v [] x e is = cc (e)
items_push value (w ∷ vs) v (y ∷ xs) x e is =
    let here : view w ≡ value y = cc (e) in
    let later : items_view vs ≡ items_of value xs = cc (e) in
    ap (λ d. item d (items_view (vs ++ v ∷ []))) here
    ∙ ap (item (value y)) (items_push value vs v xs x later is)

-- one item more
pub next_item : {A : Type 0} (value : A → Data) (ws : List Value) (i : ℕ) (v : Value) (xs after : List A) (x : A)
    → i < length ws → v ≡ get_or ws i v → items_view (take i ws) ≡ items_of value xs → view v ≡ value x
    → after ≡ xs ++ x ∷ [] → items_view (take (i + 1) ws) ≡ items_of value after
next_item value ws i v xs after x lt at before is pushed =
    ap items_view (take_more ws i v lt ∙ ap (λ y. take i ws ++ y ∷ []) (sym at))
    ∙ items_push value (take i ws) v xs x before is ∙ ap (items_of value) (sym pushed)

-- an item of those that are such values
pub item_at : {A : Type 0} (value : A → Data) (ws : List Value) (i : ℕ) (v : Value) (xs : List A) → i < length ws
    → v ≡ get_or ws i v → items_view ws ≡ items_of value xs → (x : A) × (view v ≡ value x)
item_at value [] i v xs lt at is = absurd (omega (arith, lt))
item_at value (w ∷ ws) i v [] lt at is = absurd (cc (is))
item_at value (w ∷ ws) zero v (x ∷ xs) lt at is =
    let here : view w ≡ value x = cc (is) in (x, ap view at ∙ here)
item_at value (w ∷ ws) (suc i) v (x ∷ xs) lt at is =
    let later : items_view ws ≡ items_of value xs = cc (is) in item_at value ws i v xs (omega (arith, lt)) at later

-- an item that is no such value
pub wrong_item : {A : Type 0} (value : A → Data) (ws : List Value) (i : ℕ) (v : Value) → i < length ws
    → v ≡ get_or ws i v → ((x : A) → view v ≡ value x → ⊥) → (xs : List A) → items_view ws ≡ items_of value xs → ⊥
wrong_item value ws i v lt at none xs is = let it = item_at value ws i v xs lt at is in none it.0 it.1

-- all items
pub all_items : {A : Type 0} (value : A → Data) (ws : List Value) (i : ℕ) (xs : List A) → length ws ≤ i
    → items_view (take i ws) ≡ items_of value xs → items_view ws ≡ items_of value xs
all_items value ws i xs past seen = ap items_view (sym (take_all i ws past)) ∙ seen

-- one text more
pub bytes_push : (texts after : List (String Global)) (s : String Global) → after ≡ texts ++ s ∷ []
    → bytes_of after ≡ bytes_of texts ++ string_bytes s ∷ []
bytes_push texts after s pushed = ap bytes_of pushed ∙ at_end texts s
  where
    at_end : (texts : List (String Global)) (s : String Global)
        → bytes_of (texts ++ s ∷ []) ≡ bytes_of texts ++ string_bytes s ∷ []
    at_end [] s = refl
    at_end (t ∷ texts) s = ap (λ bs. string_bytes t ∷ bs) (at_end texts s)

-- the texts that a member has
texts_told : (xs ys : List Bytes) → items_of string xs ≡ items_of string ys → xs ≡ ys
texts_told [] [] e = refl
texts_told [] (y ∷ ys) e = absurd (cc)
texts_told (x ∷ xs) [] e = absurd (cc)
texts_told (x ∷ xs) (y ∷ ys) e =
    let here : x ≡ y = cc in
    let later : items_of string xs ≡ items_of string ys = cc in
    λ i. here i ∷ texts_told xs ys later i

pub one_texts : (xs ys : List Bytes) (o : Option Data) → o ≡ Some (array_of string xs) → o ≡ Some (array_of string ys)
    → xs ≡ ys
one_texts xs ys o e f =
    let same : Some (array_of string xs) ≡ Some (array_of string ys) = sym e ∙ f in
    let items : items_of string xs ≡ items_of string ys = cc in texts_told xs ys items
