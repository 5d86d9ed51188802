-- The keys by which documents are put in order.
use Rattle.std.specs.Prelude.{◌≡◌, ℕ, ◌<◌, ◌≤◌, Bool, false, List, ◌∷◌, length, All, is_nan}
use Rattle.std.specs.List.Sorted.{IsPermutation}
use Rattle.std.specs.Borrow.{Bor}
use Rattle.std.specs.Float.{Float}
use Rattle.std.specs.Ordering.{bool_cmp, is_lt, nan_last_cmp, ordering_then}
use Rattle.std.specs.declared.cmp.Ordering.{Ordering}
use Rattle.std.specs.declared.cmp.OrderedFloat.{OrderedFloat}
use Rattle.std.specs.declared.cmp.Reverse.{Reverse}
use Rattle.elasticlunr_error.specs.Text.{Bytes, text_cmp}

-- whether the score is no number, the score, and the reference
abbrev pub Key : Type 0
Key = Bool × Reverse (OrderedFloat Float) × Bor Bytes

-- the reference and the score
abbrev pub told_key : Key → Bytes × Float
told_key key = (key.2.now, key.1.0.0)

-- what stands first says so of the score
abbrev pub IsKey : Key → Type 0
IsKey key = key.0 ≡ is_nan key.1.0.0

-- the order of keys, part by part
abbrev pub key_cmp : Key → Key → Ordering
key_cmp x y = ordering_then
    (ordering_then (bool_cmp x.0 y.0) (nan_last_cmp y.1.0.0 x.1.0.0))
    (text_cmp x.2.now y.2.now)

-- none of the keys comes after this one
abbrev pub IsLastOf : Key → List Key → Type 0
IsLastOf last keys = All (λ key. is_lt (key_cmp last key) ≡ false) keys

-- After one key more: while there is room for it, it joins the old ones. Else the last of all goes,
-- and what came last before still does.
pub record KeepsFirst (limit : ℕ) (old : List Key) (key : Key) (new : List Key) : Type 0 where
  pub room : length old < limit → IsPermutation (key ∷ old) new
  pub full : limit ≤ length old → (last : Key) × IsPermutation (key ∷ old) (last ∷ new)
      × IsLastOf last new
  pub later : limit ≤ length old → (later : Key) → IsLastOf later old → IsLastOf later new
