-- An object tells the map that it has, and holds no float if none of its values does.
use Rattle.std.proofs.Common.{◌≡◌, false, ◌||◌, List, [], ◌∷◌, refl}
use Rattle.std.specs.FinMap as finite
use Rattle.serde_json.specs.Data.{Data}
use Rattle.serde_json.specs.Written.{has_float, members_have_float}
use Rattle.elasticlunr_error.specs.Text.{Bytes, text_cmp}
use Rattle.elasticlunr_json.specs.Maps.{members, keyed}

module _ {X : Type 0} (value : X → Data) where
  module _ (one : (x y : X) → value x ≡ value y → x ≡ y) where
    same_members : (xs ys : List (Bytes × X)) → members value xs ≡ members value ys → xs ≡ ys
    same_members [] [] e = refl
    same_members [] (y ∷ ys) e = absurd (cc)
    same_members (x ∷ xs) [] e = absurd (cc)
    same_members ((r, n) ∷ xs) ((q, m) ∷ ys) e =
        let rest : members value xs ≡ members value ys = cc in
        let keys : r ≡ q = cc in
        let values : value n ≡ value m = cc in
        λ i. (keys i, one n m values i) ∷ same_members xs ys rest i

    -- an object tells the map
    pub same_keyed : (m n : finite.FinMap text_cmp X) → keyed value m ≡ keyed value n → m ≡ n
    same_keyed m n e =
        let inner : members value (finite.entries m) ≡ members value (finite.entries n) = cc in
        finite.same_entries_map m n (same_members (finite.entries m) (finite.entries n) inner)

  module _ (bare : (x : X) → has_float (value x) ≡ false) where
    bare_members : (xs : List (Bytes × X)) → members_have_float (members value xs) ≡ false
    bare_members [] = refl
    bare_members (x ∷ xs) = λ i. bare x.1 i || bare_members xs i

    pub bare_keyed : (m : finite.FinMap text_cmp X) → has_float (keyed value m) ≡ false
    bare_keyed m = bare_members (finite.entries m)
