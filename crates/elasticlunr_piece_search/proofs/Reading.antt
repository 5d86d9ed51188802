-- Reading the list of a token's postings, and adding them.
use Rattle.std.proofs.Common.{◌≡◌, ◌<◌, ℕ, List, [], ◌∷◌, Some, length, get_or, refl, ap, ◌∙◌}
use Rattle.std.specs.Str.{chars}
use Rattle.serde_json.specs.Data.{Data, item}
use Rattle.serde_json.specs.Find.{as_array}
use Rattle.serde_json.specs.View.{items_view, view}
use Rattle.serde_json.specs.declared.value.Value.{Value}
use Rattle.elasticlunr_error.specs.Text.{Bytes}
use Rattle.elasticlunr_json.specs.Maps.{count}
use Rattle.elasticlunr_trie.specs.Table.{Table, IsChanged, add}
use Rattle.elasticlunr_piece_search.specs.Entries.{AreNumbers, IsListAdded, Numbered, list_value, turns}

-- The items that are left go on what was added so far, and if all items are a list, so are those that are left.
pub record Reading (names : List Bytes) (token : Bytes) (items left : List Value) (start now : Table) : Type 0 where
  pub forward : (ps : Numbered) (end : Table) → items_view left ≡ turns ps → IsListAdded names token ps now end
      → (qs : Numbered) × (items_view items ≡ turns qs) × IsListAdded names token qs start end
  pub back : (qs : Numbered) → AreNumbers (length names) qs → items_view items ≡ turns qs
      → (ps : Numbered) × AreNumbers (length names) ps × (items_view left ≡ turns ps)

module _ (names : List Bytes) (token : Bytes) (items : List Value) (start : Table) where
  pub begin : Reading names token items items start start
  begin = record {
    forward = λ ps end is added. (ps, is, added);
    back = λ qs few is. (qs, few, is);
  }

  two_more : (v w : Value) (left : List Value) (ps : Numbered) → AreNumbers (length names) ps
      → items_view (v ∷ w ∷ left) ≡ turns ps
      → (qs : Numbered) × AreNumbers (length names) qs × (items_view left ≡ turns qs)
  two_more v w left [] few is = absurd (cc)
  two_more v w left (p ∷ ps) few is = let rest : items_view left ≡ turns ps = cc in (ps, few.1, rest)

  pub step : (v w : Value) (left : List Value) (now next : Table) (n f : ℕ)
      → Reading names token items (v ∷ w ∷ left) start now → n < length names → view v ≡ count n → view w ≡ count f
      → IsChanged (add (chars token) (get_or names n []) f) now next → Reading names token items left start next
  step v w left now next n f so_far lt number frequency changed = record {
    forward = λ ps end is added. so_far.forward ((n, f) ∷ ps) end
        (λ i. item (number i) (item (frequency i) (is i)))
        (record { numbers = (lt, added.numbers); changes = (next, changed, added.changes) });
    back = λ qs few is. let (ps, fewer, left_is) = so_far.back qs few is in two_more v w left ps fewer left_is;
  }

  pub finish : (now : Table) → Reading names token items [] start now
      → (qs : Numbered) × (items_view items ≡ turns qs) × IsListAdded names token qs start now
  finish now so_far = so_far.forward [] now refl (record { numbers = tt; changes = refl })

  no_odd : (v : Value) (ps : Numbered) → items_view (v ∷ []) ≡ turns ps → ⊥
  no_odd v [] is = cc
  no_odd v (p ∷ ps) is = cc

  -- a number without a frequency
  pub odd : (v : Value) (now : Table) → Reading names token items (v ∷ []) start now → (qs : Numbered)
      → AreNumbers (length names) qs → items_view items ≡ turns qs → ⊥
  odd v now so_far qs few is = let (ps, fewer, left_is) = so_far.back qs few is in no_odd v ps left_is

  no_pair : (v w : Value) (left : List Value) (ps : Numbered) → AreNumbers (length names) ps
      → items_view (v ∷ w ∷ left) ≡ turns ps
      → ((n f : ℕ) → n < length names → view v ≡ count n → view w ≡ count f → ⊥) → ⊥
  no_pair v w left [] few is none = cc
  no_pair v w left (p ∷ ps) few is none =
      let number : view v ≡ count p.0 = cc in
      let frequency : view w ≡ count p.1 = cc in
      none p.0 p.1 few.0 number frequency

  -- what is no posting
  pub wrong : (v w : Value) (left : List Value) (now : Table) → Reading names token items (v ∷ w ∷ left) start now
      → ((n f : ℕ) → n < length names → view v ≡ count n → view w ≡ count f → ⊥) → (qs : Numbered)
      → AreNumbers (length names) qs → items_view items ≡ turns qs → ⊥
  wrong v w left now so_far none qs few is =
      let (ps, fewer, left_is) = so_far.back qs few is in no_pair v w left ps fewer left_is none

-- the items of a value that is a list
pub its_items : (v : Data) (vs all : List Value) (ps : Numbered) → Some (items_view vs) ≡ as_array v → all ≡ vs
    → v ≡ list_value ps → items_view all ≡ turns ps
its_items v vs all ps has same is =
    let there : Some (items_view vs) ≡ Some (turns ps) = has ∙ ap as_array is in
    ap items_view same ∙ cc
