-- The lists of a token are added to the tries, one after the other.
use Rattle.std.proofs.Common.{◌≡◌, ◌<◌, ◌≤◌, ◌+◌, ◌⊎◌, inl, inr, ℕ, zero, suc, Some, List, [], ◌∷◌, ◌++◌, length, get_or, set}
use Rattle.std.proofs.Common.{take, refl, sym, ap, subst, ◌∙◌, arith, length-append}
use Rattle.std.proofs.lemmas.Bool.{cases_lt}
use Rattle.std.proofs.lemmas.List.{get_or-set_other, get_or-set_same, length-set}
use Rattle.std.specs.List.{AllByRecursion}
use Rattle.serde_json.specs.Data.{Data}
use Rattle.serde_json.specs.Find.{as_array}
use Rattle.serde_json.specs.View.{items_view, view}
use Rattle.serde_json.specs.declared.value.Value.{Value}
use Rattle.elasticlunr_error.specs.Text.{Bytes}
use Rattle.elasticlunr_piece_head.specs.Values.{array_of, items_of}
use Rattle.elasticlunr_piece_head.proofs.Items.{all_items, next_item}
use Rattle.elasticlunr_trie.specs.Table.{Table}
use Rattle.elasticlunr_piece_search.specs.Entries.{IsEntryAdded, IsListAdded, Numbered, list_value}

-- so many lists were added to the first tables, and the others stayed
pub record Adding (names : List Bytes) (token : Bytes) (values : List Value) (start now : List Table) (place : ℕ)
    : Type 0 where
  pub done : List Numbered
  pub are : items_view (take place values) ≡ items_of list_value done
  pub many : length done ≡ place
  pub tables : length now ≡ length start
  pub each : (i : ℕ) (d : Table) → i < place → IsListAdded names token (get_or done i []) (get_or start i d) (get_or now i d)
  pub rest : (i : ℕ) (d : Table) → place ≤ i → get_or now i d ≡ get_or start i d

-- what stands at a place doesn't depend on what is read past the end
pub any_default : {A : Type 0} (xs : List A) (i : ℕ) (d e : A) → i < length xs → get_or xs i d ≡ get_or xs i e
any_default [] i d e lt = absurd (omega (arith, lt))
any_default (x ∷ xs) zero d e lt = refl
any_default (x ∷ xs) (suc i) d e lt = any_default xs i d e (omega (arith, lt))

pub before_end : {A : Type 0} (xs : List A) (x d : A) (i : ℕ) → i < length xs → get_or (xs ++ x ∷ []) i d ≡ get_or xs i d
before_end [] x d i lt = absurd (omega (arith, lt))
before_end (y ∷ xs) x d zero lt = refl
before_end (y ∷ xs) x d (suc i) lt = before_end xs x d i (omega (arith, lt))

pub at_end : {A : Type 0} (xs : List A) (x d : A) (i : ℕ) → i ≡ length xs → get_or (xs ++ x ∷ []) i d ≡ x
at_end [] x d zero is = refl
at_end [] x d (suc i) is = absurd (omega (arith, is))
at_end (y ∷ xs) x d zero is = absurd (omega (arith, is))
at_end (y ∷ xs) x d (suc i) is = at_end xs x d i (omega (arith, is))

module _ (names : List Bytes) (token : Bytes) (values : List Value) (start : List Table) where
  pub step : (now : List Table) (place : ℕ) (v : Value) (ps : Numbered) (old new : Table)
      → Adding names token values start now place → place < length values → place < length now
      → v ≡ get_or values place v → old ≡ get_or now place old → view v ≡ list_value ps
      → IsListAdded names token ps old new → Adding names token values start (set now place new) (place + 1)
  step now place v ps old new so_far low there at was is added = record {
    done = so_far.done ++ ps ∷ [];
    are = next_item list_value values place v so_far.done (so_far.done ++ ps ∷ []) ps low at so_far.are is refl;
    many = length-append so_far.done (ps ∷ []) ∙ ap (λ n. n + 1) so_far.many;
    tables = length-set now place new ∙ so_far.tables;
    each = each;
    rest = λ i d le. get_or-set_other now place i new d (omega (arith, le)) ∙ so_far.rest i d (omega (arith, le));
  }
    where
      earlier : (i : ℕ) (d : Table) → i < place → IsListAdded names token (get_or (so_far.done ++ ps ∷ []) i [])
          (get_or start i d) (get_or (set now place new) i d)
      earlier i d lt =
          let many = so_far.many in
          let list = sym (before_end so_far.done ps [] i (omega (arith, lt, many))) in
          let table = sym (get_or-set_other now place i new d (omega (arith, lt))) in
          subst (λ qs. IsListAdded names token qs (get_or start i d) (get_or (set now place new) i d)) list
          (subst (IsListAdded names token (get_or so_far.done i []) (get_or start i d)) table (so_far.each i d lt))

      here : (d : Table) → IsListAdded names token (get_or (so_far.done ++ ps ∷ []) place [])
          (get_or start place d) (get_or (set now place new) place d)
      here d =
          let list = sym (at_end so_far.done ps [] place (sym so_far.many)) in
          let table = sym (get_or-set_same now place new d there) in
          let first : old ≡ get_or start place d = was ∙ any_default now place old d there
          ∙ so_far.rest place d (omega arith) in
          subst (λ qs. IsListAdded names token qs (get_or start place d) (get_or (set now place new) place d)) list
          (subst (IsListAdded names token ps (get_or start place d)) table
          (subst (λ t. IsListAdded names token ps t new) first added))

      by : (i : ℕ) (d : Table) → i < place + 1 → (i < place) ⊎ (place ≤ i)
          → IsListAdded names token (get_or (so_far.done ++ ps ∷ []) i []) (get_or start i d)
          (get_or (set now place new) i d)
      by i d lt (inl low) = earlier i d low
      by i d lt (inr high) = let same : place ≡ i = omega (arith, lt, high) in
          subst (λ k. IsListAdded names token (get_or (so_far.done ++ ps ∷ []) k []) (get_or start k d)
          (get_or (set now place new) k d)) same (here d)

      each : (i : ℕ) (d : Table) → i < place + 1 → IsListAdded names token (get_or (so_far.done ++ ps ∷ []) i [])
          (get_or start i d) (get_or (set now place new) i d)
      each i d lt = by i d lt (cases_lt i place)

  pub finish : (now : List Table) (place : ℕ) → Adding names token values start now place → length start ≤ place
      → place ≤ length start → length values ≡ length start
      → (lists : List Numbered) × (items_view values ≡ items_of list_value lists)
      × IsEntryAdded names (token, lists) start now
  finish now place so_far past within as_many =
      let many = so_far.many in (
        so_far.done,
        all_items list_value values place so_far.done (omega (arith, past, as_many)) so_far.are,
        record {
          lists = omega (arith, past, within, many);
          many = so_far.tables;
          each = λ i d lt. so_far.each i d (omega (arith, lt, past));
        },
      )

-- an item of a list
pub item_there : {A : Type 0} (value : A → Data) (P : A → Type 0) (vs : List Value) (xs : List A) (i : ℕ) (v : Value)
    → items_view vs ≡ items_of value xs → AllByRecursion P xs → i < length vs → v ≡ get_or vs i v
    → (x : A) × (view v ≡ value x) × P x
item_there value P [] xs i v is all lt at = absurd (omega (arith, lt))
item_there value P (w ∷ vs) [] i v is all lt at = absurd (cc)
item_there value P (w ∷ vs) (x ∷ xs) zero v is all lt at =
    let here : view w ≡ value x = cc in (x, ap view at ∙ here, all.0)
item_there value P (w ∷ vs) (x ∷ xs) (suc i) v is all lt at =
    let later : items_view vs ≡ items_of value xs = cc in
    item_there value P vs xs i v later all.1 (omega (arith, lt)) at

pub same_length : {A : Type 0} (value : A → Data) (vs : List Value) (xs : List A) → items_view vs ≡ items_of value xs
    → length vs ≡ length xs
same_length value [] [] is = refl
same_length value [] (x ∷ xs) is = absurd (cc)
same_length value (v ∷ vs) [] is = absurd (cc)
same_length value (v ∷ vs) (x ∷ xs) is =
    let later : items_view vs ≡ items_of value xs = cc in ap suc (same_length value vs xs later)

pub its_lists : {A : Type 0} (value : A → Data) (d : Data) (vs : List Value) (xs : List A)
    → Some (items_view vs) ≡ as_array d → d ≡ array_of value xs → items_view vs ≡ items_of value xs
its_lists value d vs xs has is =
    let there : Some (items_view vs) ≡ Some (items_of value xs) = has ∙ ap as_array is in cc
