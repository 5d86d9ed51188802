-- Where a value stands in a text of JSON, or in a line of one.
use Rattle.std.specs.Prelude.{◌≡◌, ◌++◌, ℕ, List, [], ◌∷◌, true, false, Option, Some, None}
use Rattle.std.specs.Prelude.{option_and_then, take, drop, slice_get, slice_range, map, codes}
use Rattle.serde_json.specs.Data.{Data, null, boolean}
use Rattle.serde_json.specs.Find.{at, get}
use Rattle.elasticlunr_error.specs.Text.{Bytes}
use Rattle.elasticlunr_job_format.specs.Reading.{reading}
use Rattle.elasticlunr_job_format.specs.Lines.{is_space, filled_lines}
use Rattle.elasticlunr_json_place.specs.Places.{place_at}
use Rattle.elasticlunr_json_place.specs.declared.place.Place.{Place}
use Rattle.elasticlunr_json_place.specs.declared.member.Step.{Step}
use Rattle.elasticlunr_json_place.specs.declared.member.Step.TheVariants as declared

-- a step from a value to one in it: to the member under a key, or to the item with a number, from 0
pub data Move : Type 0 where
  under : Bytes → Move
  item : ℕ → Move

-- a step that the program holds, with its text
abbrev pub move_told : Step → Move
move_told (declared.Key key) = under key.now
move_told (declared.Item number) = item number

abbrev pub path_told : List Step → List Move
path_told path = map move_told path

-- what one step leads to
abbrev pub move : Move → Data → Option Data
move (under key) d = get key d
move (item number) d = at number d

-- what a path leads to
abbrev pub follow : List Move → Data → Option Data
follow [] d = Some d
follow (step ∷ path) d = option_and_then (follow path) (move step d)

-- the part of a text that is one value: the text, or the line with this number, from 0, of those
-- that are not blank
abbrev pub part_of : Option ℕ → Bytes → Option Bytes
part_of None text = Some text
part_of (Some number) text = slice_get (filled_lines text) number

abbrev pub value_of : Option ℕ → Bytes → Option Data
value_of line text = option_and_then reading (part_of line text)

-- what a path leads to in a text, or in that line of it
abbrev pub value_at : Option ℕ → List Move → Bytes → Option Data
value_at line path text = option_and_then (follow path) (value_of line text)

-- these bytes are read as what the path leads to
abbrev pub HasValue : Option ℕ → List Move → Bytes → ℕ → ℕ → Type 0
HasValue line path text start end = (value : Data) × (value_at line path text ≡ Some value)
    × (reading (slice_range text start end) ≡ Some value)

-- the text with this word instead of the bytes from one offset up to another
abbrev pub with_word : Bytes → ℕ → ℕ → Bytes → Bytes
with_word text start end word = take start text ++ word ++ drop end text

-- these bytes are what the path leads to: they begin with no white space, are read as its value,
-- and where null, or true, stands in their place, the path leads to that
pub record StandsAt (line : Option ℕ) (path : List Move) (text : Bytes) (start end : ℕ) : Type 0
  where
    pub first : ℕ
    pub there : slice_get text start ≡ Some first
    pub no_space : is_space first ≡ false
    pub has_value : HasValue line path text start end
    pub gives_null : value_at line path (with_word text start end (codes "null")) ≡ Some null
    pub gives_true : value_at line path (with_word text start end (codes "true"))
        ≡ Some (boolean true)

-- the place is that of what the path leads to
abbrev pub IsPlaceOf : Option ℕ → List Move → Bytes → Place → Type 0
IsPlaceOf line path text place = (start : ℕ) × (end : ℕ) × StandsAt line path text start end
    × (place ≡ place_at text start)
