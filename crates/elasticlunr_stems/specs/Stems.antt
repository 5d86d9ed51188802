-- What a table makes of a word. A step applies to a text and gives a text, or it does not apply.
use Rattle.std.specs.Prelude.{ℕ, zero, suc, ◌+◌, ◌-◌, nat_le, nat_lt, max, ◌==◌, Bool}
use Rattle.std.specs.Prelude.{◌&&◌, List, [], ◌∷◌, ◌++◌, map, length, take, drop, reverse}
use Rattle.std.specs.Prelude.{Option, Some, None, option_map, if◌then◌else◌, slice_index, bytes_eq}
use Rattle.std.specs.List.{list_any, slice_get, fold}
use Rattle.std.specs.Option.{unwrap_or}
use Rattle.elasticlunr_error.specs.Text.{Text}
use Rattle.elasticlunr_stems.specs.Tables.{is_in, Row, Kind, Step, Mark, Table}
use Rattle.elasticlunr_stems.specs.Tables.{add, within, one, twin, run, cut, both, either, fails}
use Rattle.elasticlunr_stems.specs.Tables.{keep, sweep}

-- the beginning of a text whose characters are given from the last to the first, without those at
-- the end that are in the class
abbrev pub run_off : (ℕ → Bool) → Text → Text
run_off in_class [] = []
run_off in_class (c ∷ cs) = if in_class c then run_off in_class cs else reverse (c ∷ cs)

-- the same without the last character, if that is in the class
abbrev pub one_off : (ℕ → Bool) → Text → Option Text
one_off in_class [] = None
one_off in_class (c ∷ cs) = if in_class c then Some (reverse cs) else None

-- the same without the last character, if that is in the class and stands twice
abbrev pub twin_off : (ℕ → Bool) → Text → Option Text
twin_off in_class [] = None
twin_off in_class (c ∷ []) = None
twin_off in_class (c ∷ d ∷ cs) = if in_class c && c == d then Some (reverse (d ∷ cs)) else None

-- the text ends with the suffix, and what stands before it reaches the region
abbrev pub ends_in : ℕ → Text → Row → Bool
ends_in region text row =
    bytes_eq (drop (length text - length row.suffix) text) row.suffix
    && nat_le (region + length row.suffix) (length text)

-- the row with the longer suffix, and the first of two that are as long
abbrev pub longer : Row → Option Row → Option Row
longer row None = Some row
longer row (Some other) =
    if nat_lt (length row.suffix) (length other.suffix) then Some other else Some row

-- the row with the longest suffix with which the text ends
abbrev pub longest : ℕ → Text → List Row → Option Row
longest region text [] = None
longest region text (row ∷ rows) =
    if ends_in region text row then longer row (longest region text rows)
    else longest region text rows

-- what the step that is named by the row makes of what stands before the suffix
abbrev pub cut_off : (ℕ → Text → Option Text) → Text → Option Row → Option Text
cut_off apply text None = None
cut_off apply text (Some row) = apply row.step (take (length text - length row.suffix) text)

-- a text or nothing, followed by a step
abbrev pub and_then : (Text → Option Text) → Option Text → Option Text
and_then next None = None
and_then next (Some text) = next text

-- a text or what another step gives
abbrev pub or_else : Option Text → Option Text → Option Text
or_else None other = other
or_else (Some text) other = Some text

-- the text, if a step gave nothing
abbrev pub if_none : Text → Option Text → Option Text
if_none text None = Some text
if_none text (Some _) = None

-- the text typed anew: after each character a step changes what stands so far, where it applies
abbrev pub type_one : (Text → Option Text) → Text → ℕ → Text
type_one apply typed c = let next = typed ++ c ∷ [] in unwrap_or (apply next) next

abbrev pub typed_anew : (Text → Option Text) → Text → Text
typed_anew apply text = fold (type_one apply) [] text

-- what a kind of step makes of a text, where apply says what the steps do that it names and the
-- regions say where each begins
unfoldable pub outcome : (ℕ → Text → Option Text) → List ℕ → Kind → Text → Option Text
outcome apply regions (add end) text = Some (text ++ end)
outcome apply regions (within k) text =
    if nat_le (slice_index regions k) (length text) then Some text else None
outcome apply regions (one class) text = one_off (is_in class) (reverse text)
outcome apply regions (twin class) text = twin_off (is_in class) (reverse text)
outcome apply regions (run class) text = Some (run_off (is_in class) (reverse text))
outcome apply regions (cut k rows) text =
    cut_off apply text (longest (slice_index regions k) text rows)
outcome apply regions (both a b) text = and_then (apply b) (apply a text)
outcome apply regions (either a b) text = or_else (apply a text) (apply b text)
outcome apply regions (fails a) text = if_none text (apply a text)
outcome apply regions (keep a b) text =
    and_then (λ front. option_map (λ front'. front' ++ drop (length front) text) (apply b front))
    (apply a text)
outcome apply regions (sweep class a) text =
    Some (if list_any (is_in class) text then typed_anew (apply a) text else text)

-- the same of a step, where there is one
abbrev pub outcome_at : (ℕ → Text → Option Text) → List ℕ → Option Step → Text → Option Text
outcome_at apply regions None text = Some text
outcome_at apply regions (Some step) text = outcome apply regions step.kind text

-- what the step with the number makes of a text, where steps are nested that deep at most: what
-- lies deeper leaves the text as it is, and so does a number that no step has
unfoldable pub applied : List Step → List ℕ → ℕ → ℕ → Text → Option Text
applied steps regions zero number text = Some text
applied steps regions (suc depth) number text =
    outcome_at (applied steps regions depth) regions (slice_get steps number) text

-- how deep steps are nested at most
abbrev pub deepest : ℕ
deepest = 400

-- the text after the step, where it applies
abbrev pub after : List Step → List ℕ → ℕ → Text → Text
after steps regions number text = unwrap_or (applied steps regions deepest number text) text

-- where the region begins in the text
abbrev pub region_of : List Step → Text → Mark → ℕ
region_of steps text mark =
    let rest = unwrap_or (applied steps [] deepest mark.step (reverse text)) [] in
    max mark.least (length text - length rest)

-- region 0 is the whole text
abbrev pub regions_of : Table → Text → List ℕ
regions_of table text = 0 ∷ map (region_of table.steps text) table.marks

-- the stem of a word
abbrev pub stem_of : Table → Text → Text
stem_of table word =
    let text = after table.steps [] table.before word in
    after table.steps (regions_of table text) table.main text
