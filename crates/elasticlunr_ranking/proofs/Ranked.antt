-- Keys in order are documents in order, the best first.
use Rattle.std.proofs.Common.{◌≡◌, ◌<◌, ◌+◌, ℕ, zero, suc, Bool, true, false, cond, List, [], ◌∷◌, length, get_or, map, take}
use Rattle.std.proofs.Common.{All, Less, Equal, Greater, refl, ap, sym, subst, ◌∙◌, arith}
use Rattle.std.proofs.Math.ListN.{get_or-map}
use Rattle.std.proofs.lemmas.List.{length-map}
use Rattle.std.proofs.lemmas.List.Sorted.{IsPermutation-map}
use Rattle.std.specs.Prelude.{is_nan}
use Rattle.std.specs.Float.{Float}
use Rattle.std.specs.Float.Ieee.{lt}
use Rattle.std.specs.List.Sorted.{IsPermutation, IsSorted}
use Rattle.std.specs.Ordering.{bool_cmp, is_lt, nan_last_cmp, ordering_then}
use Rattle.std.specs.declared.cmp.Ordering.{Ordering}
use Rattle.elasticlunr_error.specs.Text.{Bytes, text_cmp}
use Rattle.elasticlunr_ranking.specs.Keys.{IsKey, Key, key_cmp, told_key}
use Rattle.elasticlunr_ranking.specs.Order.{best_first}

pub each : (scores : List (Bytes × Float)) (keys sorted : List Key) → map told_key keys ≡ scores
    → IsPermutation keys sorted → IsPermutation scores (map told_key sorted)
each scores keys sorted e moves =
    subst (λ s. IsPermutation s (map told_key sorted)) e (IsPermutation-map told_key keys sorted moves)

flagged : (p q : Bool) (o : Ordering)
    → ordering_then (bool_cmp p q) (cond q (cond p Equal Greater) (cond p Less o))
    ≡ cond p (cond q Equal Greater) (cond q Less o)
flagged true true o = refl
flagged true false o = refl
flagged false true o = refl
flagged false false o = refl

-- keys compare as their documents do
pub same_order : (x y : Key) → IsKey x → IsKey y → key_cmp x y ≡ best_first (told_key x) (told_key y)
same_order x y f g =
    (λ i. ordering_then (ordering_then (bool_cmp (f i) (g i)) (nan_last_cmp y.1.0.0 x.1.0.0))
    (text_cmp x.2.now y.2.now))
    ∙ ap (λ o. ordering_then o (text_cmp x.2.now y.2.now)) (flagged (is_nan x.1.0.0) (is_nan y.1.0.0)
    (cond (lt y.1.0.0 x.1.0.0) Less (cond (lt x.1.0.0 y.1.0.0) Greater Equal)))

pub in_order : (keys : List Key) → All IsKey keys → IsSorted key_cmp keys → IsSorted best_first (map told_key keys)
in_order keys all up k d low bound =
    let e : Key = (is_nan d.1, record { 0 = record { 0 = d.1 } }, record { ref_ptr = (0, 0); now = d.0 }) in
    let there : k + 1 < length keys = omega (arith, length-map keys told_key, bound) in
    (λ i. is_lt (best_first (get_or-map told_key keys (k + 1) e i) (get_or-map told_key keys k e i)))
    ∙ ap is_lt (sym (same_order (get_or keys (k + 1) e) (get_or keys k e) (all (k + 1) e there)
    (all k e (omega arith))))
    ∙ up k e low there

pub first_told : (n : ℕ) (keys : List Key) → map told_key (take n keys) ≡ take n (map told_key keys)
first_told zero keys = refl
first_told (suc n) [] = refl
first_told (suc n) (key ∷ keys) = ap (λ ks. told_key key ∷ ks) (first_told n keys)
