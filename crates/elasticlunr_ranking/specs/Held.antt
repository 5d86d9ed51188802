-- What maps and lists have of a reference.
use Rattle.std.specs.Prelude.{◌≡◌, ℕ, List, Option, Some, cond, map, unwrap_or, bytes_eq, T}
use Rattle.std.specs.Borrow.{Bor}
use Rattle.std.specs.BTreeMap.{BTreeMap, get_by}
use Rattle.std.specs.FinMap.Entries.{find, is_sorted}
use Rattle.std.specs.Float.{Float}
use Rattle.std.specs.List.{fold}
use Rattle.elasticlunr_error.specs.Text.{Bytes, text_cmp}
use Rattle.elasticlunr_ranking.specs.Doubles.{◌+ᵈ◌}
use Rattle.elasticlunr_ranking.specs.Fields.{Field}
use Rattle.elasticlunr_ranking.specs.Weights.{weight}
use Rattle.elasticlunr_ranking.specs.Numbers.{zero_double}

-- borrowed references, each with a value
abbrev pub told : {X : Type 0} → List (Bor Bytes × X) → List (Bytes × X)
told es = map (λ e. (e.0.now, e.1)) es

-- what a map has of a reference
abbrev pub held : {X : Type 0} → BTreeMap (Bor Bytes) X → Bytes → Option X
held m reference = get_by (λ k. text_cmp reference k.now) m

-- a list has each reference once, in the order of their bytes, with what f says of it, if it says
-- something
pub record Scores {X : Type 0} (es : List (Bytes × X)) (f : Bytes → Option X) : Type 0 where
  pub in_order : T (is_sorted text_cmp es)
  pub are : (reference : Bytes) → find text_cmp reference es ≡ f reference

-- what is held of a reference after these values were taken in, each under its reference
abbrev pub under : {X V : Type 0} → (step : Bytes → Option X → V → Option X) → Bytes → Option X
    → List (Bytes × V) → Option X
under step reference before es =
    fold (λ x e. cond (bytes_eq e.0 reference) (step e.0 x e.1) x) before es

abbrev pub add_weight : Field → (idf penalty : Float) → Bytes → Option Float → ℕ → Option Float
add_weight field idf penalty reference before frequency =
    Some (unwrap_or before zero_double +ᵈ weight field idf penalty reference frequency)
