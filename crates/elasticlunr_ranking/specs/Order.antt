-- Which of two documents comes first.
use Rattle.std.specs.Prelude.{◌≡◌, ℕ, List, cond, is_nan, map, take, string_bytes}
use Rattle.std.specs.List.Sorted.{IsPermutation, IsSorted}
use Rattle.std.specs.Float.{Float}
use Rattle.std.specs.Float.Ieee.{lt}
use Rattle.std.specs.Ordering.{ordering_then}
use Rattle.std.specs.declared.cmp.Ordering.{Ordering}
use Rattle.std.specs.declared.cmp.Ordering.TheVariants.{Less, Equal, Greater}
use Rattle.elasticlunr_error.specs.Text.{Text, Bytes, text_cmp}
use Rattle.elasticlunr_ranking.specs.Fields.{Field}
use Rattle.elasticlunr_ranking.specs.Held.{Scores}
use Rattle.elasticlunr_ranking.specs.Weights.{AreAllLookedUp, total_score}
use Rattle.elasticlunr_ranking.specs.declared.hits.Hit.{Hit}

-- of two scores the greater comes first, and one that is no number comes after each that is one
abbrev pub greater_first : Float → Float → Ordering
greater_first x y = cond (is_nan x) (cond (is_nan y) Equal Greater)
    (cond (is_nan y) Less (cond (lt y x) Less (cond (lt x y) Greater Equal)))

-- the document whose score comes first, and of equal scores the lesser reference
abbrev pub best_first : Bytes × Float → Bytes × Float → Ordering
best_first x y = ordering_then (greater_first x.1 y.1) (text_cmp x.0 y.0)

-- the reference and the score of each hit
abbrev pub told_hits : List Hit → List (Bytes × Float)
told_hits hits = map (λ hit. (string_bytes hit.reference, hit.score)) hits

-- these are the documents that the tokens find in the fields, each once, with its score, the best
-- first
pub record AreRanked (fields : List Field) (tokens : List Text) (hits : List (Bytes × Float)) : Type
    0 where
  pub looked_up : List (Field × List (Text × List Text))
  pub of_fields : AreAllLookedUp fields tokens looked_up
  pub scores : List (Bytes × Float)
  pub are : Scores scores (total_score looked_up)
  pub each : IsPermutation scores hits
  pub in_order : IsSorted best_first hits

-- these are the first of the scores, in order
abbrev pub AreFirst : List (Bytes × Float) → (limit : ℕ) → List (Bytes × Float) → Type 0
AreFirst scores limit hits = (all : List (Bytes × Float)) × IsPermutation scores all
    × IsSorted best_first all × (hits ≡ take limit all)

-- these are the first of those that are ranked
abbrev pub AreBest : List Field → List Text → (limit : ℕ) → List (Bytes × Float) → Type 0
AreBest fields tokens limit hits = (all : List (Bytes × Float)) × AreRanked fields tokens all
    × (hits ≡ take limit all)
