-- Reading the documents of a piece of the texts, and putting them into a store.
use Rattle.std.proofs.Common.{◌≡◌, ◌<◌, ◌≤◌, ◌+◌, ◌-◌, ℕ, zero, suc, List, [], ◌∷◌, Option, Some, option_map, length, get_or, drop, take, refl, sym, ap}
use Rattle.std.proofs.Common.{subst, ◌∙◌, arith, String, Global, string_bytes}
use Rattle.std.proofs.lemmas.List.{drop_all, drop_more}
use Rattle.std.specs.Borrow.{Bor}
use Rattle.std.specs.FinMap.{get}
use Rattle.std.specs.List.{AllZip}
use Rattle.std.specs.Prelude.{slice_range}
use Rattle.serde_json.specs.Data.{Data, item, string}
use Rattle.serde_json.specs.View.{items_view, view}
use Rattle.serde_json.specs.declared.value.Value.{Value}
use Rattle.elasticlunr_error.specs.Text.{Bytes, bytes_of}
use Rattle.elasticlunr_json.specs.Maps.{keyed}
use Rattle.elasticlunr_json.proofs.Keyed.{same_keyed}
use Rattle.elasticlunr_piece_head.specs.Values.{items_of}
use Rattle.elasticlunr_store.specs.Contents.{Contents, TextMap, with_document}
use Rattle.elasticlunr_piece_search.specs.Texts.{HasReference, with_texts}

-- The documents that are left go on what was put in so far, and if all are documents, so are those that are left.
pub record Filling (name : Option Bytes) (rs : List (String Global)) (vs : List Value) (start now : Contents) (place : ℕ)
    : Type 0 where
  pub forward : (ds : List TextMap) (end : Contents) → items_view (drop place vs) ≡ items_of (keyed string) ds
      → AllZip (HasReference name) (bytes_of (drop place rs)) ds → end ≡ with_texts now (bytes_of (drop place rs)) ds
      → (es : List TextMap) × (items_view vs ≡ items_of (keyed string) es)
      × AllZip (HasReference name) (bytes_of rs) es × (end ≡ with_texts start (bytes_of rs) es)
  pub back : (es : List TextMap) → items_view vs ≡ items_of (keyed string) es
      → AllZip (HasReference name) (bytes_of rs) es
      → (ds : List TextMap) × (items_view (drop place vs) ≡ items_of (keyed string) ds)
      × AllZip (HasReference name) (bytes_of (drop place rs)) ds

one_out : {A : Type 0} (xs : List A) (i : ℕ) (x : A) → i < length xs → x ≡ get_or xs i x → drop i xs ≡ x ∷ drop (i + 1) xs
one_out xs i x lt at = drop_more xs i x lt ∙ ap (λ y. y ∷ drop (i + 1) xs) (sym at)

module _ (name : Option Bytes) (rs : List (String Global)) (vs : List Value) (start : Contents) where
  pub begin : Filling name rs vs start start 0
  begin = record {
    forward = λ ds end is has e. (ds, is, has, e);
    back = λ es is has. (es, is, has);
  }

  abbrev Left : List Value → List (String Global) → Type 0
  Left values references = (ds : List TextMap) × (items_view values ≡ items_of (keyed string) ds)
      × AllZip (HasReference name) (bytes_of references) ds

  one_less : (v : Value) (r : String Global) (values : List Value) (references : List (String Global))
      → Left (v ∷ values) (r ∷ references) → Left values references
  one_less v r values references ([], is, has) = absurd has
  one_less v r values references (d ∷ ds, is, has) =
      let later : items_view values ≡ items_of (keyed string) ds = cc (is) in (ds, later, has.1)

  pub step : (now next : Contents) (place : ℕ) (r : String Global) (v : Value) (d : TextMap)
      → Filling name rs vs start now place → place < length rs → place < length vs → r ≡ get_or rs place r
      → v ≡ get_or vs place v → view v ≡ keyed string d → HasReference name (string_bytes r) d
      → next ≡ with_document now (string_bytes r) d → Filling name rs vs start next (place + 1)
  step now next place r v d so_far low high at_r at_v is has put =
      let references = one_out rs place r low at_r in
      let values = one_out vs place v high at_v in
      record {
        forward = λ ds end left_is left_has e. so_far.forward (d ∷ ds) end
            (ap items_view values ∙ (λ i. item (is i) (left_is i)))
            (subst (λ xs. AllZip (HasReference name) (bytes_of xs) (d ∷ ds)) (sym references) (has, left_has))
            (e ∙ ap (λ c. with_texts c (bytes_of (drop (place + 1) rs)) ds) put
            ∙ ap (λ xs. with_texts now (bytes_of xs) (d ∷ ds)) (sym references));
        back = λ es all_is all_has.
            let left = so_far.back es all_is all_has in
            one_less v r (drop (place + 1) vs) (drop (place + 1) rs) (
              left.0,
              ap items_view (sym values) ∙ left.1,
              subst (λ xs. AllZip (HasReference name) (bytes_of xs) left.0) references left.2,
            );
      }

  pub finish : (now : Contents) (place : ℕ) → Filling name rs vs start now place → length rs ≤ place
      → length vs ≡ length rs → (es : List TextMap) × (items_view vs ≡ items_of (keyed string) es)
      × AllZip (HasReference name) (bytes_of rs) es × (now ≡ with_texts start (bytes_of rs) es)
  finish now place so_far past many =
      let references = drop_all place rs past in
      let values = drop_all place vs (omega (arith, past, many)) in
      so_far.forward [] now (ap items_view values)
      (subst (λ xs. AllZip (HasReference name) (bytes_of xs) []) (sym references) tt)
      (ap (λ xs. with_texts now (bytes_of xs) []) (sym references))

  -- what is no document of its reference
  pub wrong : (now : Contents) (place : ℕ) (r : String Global) (v : Value) → Filling name rs vs start now place
      → place < length rs → place < length vs → r ≡ get_or rs place r → v ≡ get_or vs place v
      → ((d : TextMap) → view v ≡ keyed string d → HasReference name (string_bytes r) d → ⊥)
      → (es : List TextMap) → items_view vs ≡ items_of (keyed string) es → AllZip (HasReference name) (bytes_of rs) es → ⊥
  wrong now place r v so_far low high at_r at_v none es is has =
      let references = one_out rs place r low at_r in
      let values = one_out vs place v high at_v in
      let left = so_far.back es is has in
      by (
        left.0,
        ap items_view (sym values) ∙ left.1,
        subst (λ xs. AllZip (HasReference name) (bytes_of xs) left.0) references left.2,
      )
    where
      by : Left (v ∷ drop (place + 1) vs) (r ∷ drop (place + 1) rs) → ⊥
      by ([], is, has) = has
      by (d ∷ ds, is, has) = let here : view v ≡ keyed string d = cc (is) in none d here has.0

-- there is a document for each reference
pub as_many : (name : Option Bytes) (rs : List Bytes) (ds : List TextMap) → AllZip (HasReference name) rs ds
    → length rs ≡ length ds
as_many name [] [] all = refl
as_many name [] (d ∷ ds) all = absurd all
as_many name (r ∷ rs) [] all = absurd all
as_many name (r ∷ rs) (d ∷ ds) all = ap suc (as_many name rs ds all.1)

-- a value is that of one document alone
pub one_document : (v : Data) (d e : TextMap) → v ≡ keyed string d → v ≡ keyed string e → d ≡ e
one_document v d e is also = same_keyed string (λ x y same. let one : x ≡ y = cc (same) in one) d e (sym is ∙ also)

-- the bytes of a part of some texts
taken : (n : ℕ) (xs : List (String Global)) → bytes_of (take n xs) ≡ take n (bytes_of xs)
taken zero xs = refl
taken (suc n) [] = refl
taken (suc n) (x ∷ xs) = ap (λ bs. string_bytes x ∷ bs) (taken n xs)

dropped : (n : ℕ) (xs : List (String Global)) → bytes_of (drop n xs) ≡ drop n (bytes_of xs)
dropped zero xs = refl
dropped (suc n) [] = refl
dropped (suc n) (x ∷ xs) = dropped n xs

pub bytes_range : (xs : List (String Global)) (from end : ℕ)
    → bytes_of (slice_range xs from end) ≡ slice_range (bytes_of xs) from end
bytes_range xs from end = taken (end - from) (drop from xs) ∙ ap (take (end - from)) (dropped from xs)

-- where a name is given
pub for_name : (o : Option (Bor Bytes)) (n : Bor Bytes) → o ≡ Some n → (r : Bytes) (t : TextMap)
    → (get t n.now ≡ Some r → HasReference (option_map (λ x. x.now) o) r t)
    × (HasReference (option_map (λ x. x.now) o) r t → get t n.now ≡ Some r)
for_name o n is r t = (
  subst (λ p. HasReference (option_map (λ x. x.now) p) r t) (sym is),
  subst (λ p. HasReference (option_map (λ x. x.now) p) r t) is,
)
