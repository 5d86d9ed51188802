-- Safe tables: what a step declares is so, and a step that does not apply has changed nothing.
use Rattle.std.specs.Prelude.{ℕ, nat_le, Bool, true, false, ◌&&◌, ◌||◌, not, List, [], ◌∷◌, length}
use Rattle.std.specs.Prelude.{Option, Some, None}
use Rattle.std.specs.List.{list_all, slice_get}
use Rattle.elasticlunr_error.specs.Text.{is_not_empty}
use Rattle.elasticlunr_stems.specs.Tables.{Row, Kind, Step}
use Rattle.elasticlunr_stems.specs.Tables.{add, within, one, twin, run, cut, both, either, fails}
use Rattle.elasticlunr_stems.specs.Tables.{keep, sweep}

-- what the table declares of the step with the number; a number that no step has does nothing
abbrev pub shortens : Option Step → Bool
shortens None = true
shortens (Some step) = step.only_shortens

abbrev pub applies : Option Step → Bool
applies None = true
applies (Some step) = step.always_applies

abbrev pub shortens_at : List Step → ℕ → Bool
shortens_at steps number = shortens (slice_get steps number)

abbrev pub applies_at : List Step → ℕ → Bool
applies_at steps number = applies (slice_get steps number)

-- a step of the kind only shortens the text
abbrev pub kind_shortens : List Step → Kind → Bool
kind_shortens steps (add end) = not (is_not_empty end)
kind_shortens steps (within k) = true
kind_shortens steps (one class) = true
kind_shortens steps (twin class) = true
kind_shortens steps (run class) = true
kind_shortens steps (cut k rows) = list_all (λ row. shortens_at steps row.step) rows
kind_shortens steps (both a b) = shortens_at steps a && shortens_at steps b
kind_shortens steps (either a b) = shortens_at steps a && shortens_at steps b
kind_shortens steps (fails a) = true
kind_shortens steps (keep a b) = false
kind_shortens steps (sweep class a) = false

-- a step of the kind applies to each text
abbrev pub kind_applies : List Step → Kind → Bool
kind_applies steps (add end) = true
kind_applies steps (within k) = false
kind_applies steps (one class) = false
kind_applies steps (twin class) = false
kind_applies steps (run class) = true
kind_applies steps (cut k rows) = false
kind_applies steps (both a b) = applies_at steps a && applies_at steps b
kind_applies steps (either a b) = applies_at steps a || applies_at steps b
kind_applies steps (fails a) = false
kind_applies steps (keep a b) = applies_at steps a && applies_at steps b
kind_applies steps (sweep class a) = true

-- no suffix is longer than the one before it
abbrev pub get_no_longer : ℕ → List Row → Bool
get_no_longer len [] = true
get_no_longer len (row ∷ rows) =
    nat_le (length row.suffix) len && get_no_longer (length row.suffix) rows

abbrev pub are_longest_first : List Row → Bool
are_longest_first [] = true
are_longest_first (row ∷ rows) = get_no_longer (length row.suffix) rows

-- after a part that may change characters comes one that always applies, and what is only tried
-- changes none
abbrev pub kind_is_safe : List Step → Kind → Bool
kind_is_safe steps (add end) = true
kind_is_safe steps (within k) = true
kind_is_safe steps (one class) = true
kind_is_safe steps (twin class) = true
kind_is_safe steps (run class) = true
kind_is_safe steps (cut k rows) = are_longest_first rows
kind_is_safe steps (both a b) = shortens_at steps a || applies_at steps b
kind_is_safe steps (either a b) = true
kind_is_safe steps (fails a) = shortens_at steps a
kind_is_safe steps (keep a b) = shortens_at steps a
kind_is_safe steps (sweep class a) = true

-- the step is what it declares, and safe
abbrev pub is_safe : List Step → Step → Bool
is_safe steps step =
    (not step.only_shortens || kind_shortens steps step.kind)
    && (not step.always_applies || kind_applies steps step.kind) && kind_is_safe steps step.kind

abbrev pub are_safe : List Step → Bool
are_safe steps = list_all (is_safe steps) steps
