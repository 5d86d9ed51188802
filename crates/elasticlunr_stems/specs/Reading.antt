-- How a table is written: lines of words, the first line for the stemmer and one for each step.
use Rattle.std.specs.Prelude.{ℕ, ◌+◌, ◌-◌, ◌*◌, nat_le, Bool, true, false, ◌&&◌, ◌==◌, List, []}
use Rattle.std.specs.Prelude.{◌∷◌}
use Rattle.std.specs.Prelude.{length, Option, Some, None, option_map, if◌then◌else◌}
use Rattle.std.specs.List.{list_all, fold, slice_split}
use Rattle.elasticlunr_error.specs.Text.{Text, is_not_empty}
use Rattle.elasticlunr_stems.specs.Tables.{Class, Row, Kind, Step, Mark, Table}
use Rattle.elasticlunr_stems.specs.Tables.{add, within, one, twin, run, cut, both, either, fails}
use Rattle.elasticlunr_stems.specs.Tables.{keep, sweep}

-- what the second reading gives of what the first gives
abbrev pub read_then : {A B : Type 0} → Option A → (A → Option B) → Option B
read_then None next = None
read_then (Some x) next = next x

-- the lines of a text, and the words of a line, between each two of which a space stands
abbrev pub lines_of : Text → List Text
lines_of text = slice_split (λ c. c == 0x0A) text

abbrev pub words_of : Text → List Text
words_of line = slice_split (λ c. c == 0x20) line

-- a number is one to four digits
abbrev pub is_digit : ℕ → Bool
is_digit c = nat_le 0x30 c && nat_le c 0x39

abbrev pub is_number : Text → Bool
is_number word = is_not_empty word && nat_le (length word) 4 && list_all is_digit word

abbrev pub with_digit : ℕ → ℕ → ℕ
with_digit n c = 10 * n + (c - 0x30)

abbrev pub number_in : Text → Option ℕ
number_in word = if is_number word then Some (fold with_digit 0 word) else None

-- a class is its characters, or behind a circumflex those that are not in it
abbrev pub class_in : Text → Class
class_in [] = record { all_but = false; listed = [] }
class_in (c ∷ cs) =
    if c == 0x5E then record { all_but = true; listed = cs }
    else record { all_but = false; listed = c ∷ cs }

-- one word, two words
abbrev pub one_word : List Text → Option Text
one_word (word ∷ []) = Some word
one_word _ = None

abbrev pub two_words : List Text → Option (Text × Text)
two_words (first ∷ second ∷ []) = Some (first, second)
two_words _ = None

abbrev pub one_number : List Text → Option ℕ
one_number words = read_then (one_word words) number_in

abbrev pub pair_of : Option ℕ → Option ℕ → Option (ℕ × ℕ)
pair_of None second = None
pair_of (Some a) second = option_map (λ b. (a, b)) second

abbrev pub two_numbers : List Text → Option (ℕ × ℕ)
two_numbers words =
    read_then (two_words words) (λ pair. pair_of (number_in pair.0) (number_in pair.1))

-- rows: the number of a step and a suffix, in turn
abbrev pub with_row : Text → Option ℕ → Option (List Row) → Option (List Row)
with_row suffix None rows = None
with_row suffix (Some step) rows =
    option_map (λ more. record { suffix = suffix; step = step } ∷ more) rows

abbrev pub rows_in : List Text → Option (List Row)
rows_in [] = Some []
rows_in (number ∷ []) = None
rows_in (number ∷ suffix ∷ words) = with_row suffix (number_in number) (rows_in words)

abbrev pub cut_in : List Text → Option Kind
cut_in [] = None
cut_in (number ∷ words) =
    read_then (number_in number) (λ region. option_map (λ rows. cut region rows) (rows_in words))

abbrev pub sweep_in : List Text → Option Kind
sweep_in words =
    read_then (two_words words) (λ pair. option_map (sweep (class_in pair.0)) (number_in pair.1))

-- the kind of a step: its sign, and the words after it
abbrev pub kind_in : ℕ → List Text → Option Kind
kind_in sign words =
    if sign == 0x2B then option_map add (one_word words)
    else if sign == 0x40 then option_map within (one_number words)
    else if sign == 0x2E then option_map (λ word. one (class_in word)) (one_word words)
    else if sign == 0x3A then option_map (λ word. twin (class_in word)) (one_word words)
    else if sign == 0x2A then option_map (λ word. run (class_in word)) (one_word words)
    else if sign == 0x2D then cut_in words
    else if sign == 0x26 then option_map (λ pair. both pair.0 pair.1) (two_numbers words)
    else if sign == 0x7C then option_map (λ pair. either pair.0 pair.1) (two_numbers words)
    else if sign == 0x21 then option_map fails (one_number words)
    else if sign == 0x3D then option_map (λ pair. keep pair.0 pair.1) (two_numbers words)
    else if sign == 0x7E then sweep_in words
    else None

-- what a step declares: a letter, or a hyphen in its place
abbrev pub flag_in : ℕ → ℕ → Option Bool
flag_in letter c = if c == letter then Some true else if c == 0x2D then Some false else None

-- the first word of a step: its sign, s if it only shortens, and a if it always applies
abbrev pub step_with : Option Bool → Option Bool → Option Kind → Option Step
step_with (Some s) (Some a) (Some kind) =
    Some (record { only_shortens = s; always_applies = a; kind = kind })
step_with _ _ _ = None

abbrev pub headed_step : Text → List Text → Option Step
headed_step (sign ∷ s ∷ a ∷ []) words =
    step_with (flag_in 0x73 s) (flag_in 0x61 a) (kind_in sign words)
headed_step _ words = None

abbrev pub step_in : List Text → Option Step
step_in [] = None
step_in (head ∷ words) = headed_step head words

-- the steps, one on each line
abbrev pub with_step : Option Step → Option (List Step) → Option (List Step)
with_step None steps = None
with_step (Some step) steps = option_map (λ more. step ∷ more) steps

abbrev pub steps_in : List Text → Option (List Step)
steps_in [] = Some []
steps_in (line ∷ lines) = with_step (step_in (words_of line)) (steps_in lines)

-- marks: the number of a step and a least place, in turn
abbrev pub with_mark : Option ℕ → Option ℕ → Option (List Mark) → Option (List Mark)
with_mark (Some step) (Some least) marks =
    option_map (λ more. record { step = step; least = least } ∷ more) marks
with_mark _ _ marks = None

abbrev pub marks_in : List Text → Option (List Mark)
marks_in [] = Some []
marks_in (step ∷ []) = None
marks_in (step ∷ least ∷ words) = with_mark (number_in step) (number_in least) (marks_in words)

-- the first line: the step before, the main step, and the marks
abbrev pub table_with : Option ℕ → Option ℕ → Option (List Mark) → List Step → Option Table
table_with (Some before) (Some main) (Some marks) steps =
    Some (record { steps = steps; before = before; marks = marks; main = main })
table_with _ _ _ steps = None

abbrev pub headed_table : List Text → List Step → Option Table
headed_table (before ∷ main ∷ marks) steps =
    table_with (number_in before) (number_in main) (marks_in marks) steps
headed_table _ steps = None

abbrev pub lined_table : List Text → Option Table
lined_table [] = None
lined_table (head ∷ lines) = read_then (steps_in lines) (headed_table (words_of head))

-- the table that a text is
abbrev pub table_in : Text → Option Table
table_in text = lined_table (lines_of text)
