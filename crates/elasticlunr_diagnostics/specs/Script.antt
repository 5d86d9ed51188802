-- The text of a script that holds an index.
use Rattle.std.specs.Prelude.{◌≡◌, ◌≢◌, ◌⊎◌, ◌<◌, ◌==◌, ◌&&◌, ℕ, Bool, true, false, not, [], ◌∷◌}
use Rattle.std.specs.Prelude.{◌++◌, length, take, drop, find, slice_index, option_map, unwrap_or}
use Rattle.elasticlunr_text.specs.Text.{Bytes}
use Rattle.elasticlunr_job_format.specs.Lines.{is_space}

-- the line without the line feed at its end, where it has one
abbrev pub IsWithoutFeed : Bytes → Bytes → Type 0
IsWithoutFeed line index = (line ≡ index ++ 10 ∷ [])
    ⊎ ((line ≡ index) × ((front : Bytes) → line ≢ front ++ 10 ∷ []))

-- the text before, the line without its line feed, a semicolon and a line feed
abbrev pub IsScript : Bytes → Bytes → Bytes → Type 0
IsScript before line script = (index : Bytes) × IsWithoutFeed line index
    × (script ≡ before ++ index ++ (59 ∷ 10 ∷ []))

-- the first byte that is no space is `"`
abbrev pub begins_string : Bytes → Bool
begins_string text = unwrap_or (option_map (λ b. b == 34) (find (λ b. not (is_space b)) text)) false

-- a text begins with `{`, and a string after that
abbrev pub begins_object : Bytes → Bool
begins_object [] = false
begins_object (b ∷ rest) = (b == 123) && begins_string rest

-- the first object with a member begins at this offset
pub record IsObjectStart (script : Bytes) (start : ℕ) : Type 0 where
  pub begins : begins_object (drop start script) ≡ true
  pub first : (k : ℕ) → k < start → begins_object (drop k script) ≡ false

-- a semicolon stands at this offset, and only white space after it
pub record IsEnd (text : Bytes) (end : ℕ) : Type 0 where
  pub within : end < length text
  pub semicolon : slice_index text end ≡ 59
  pub behind : (k : ℕ) → end < k → k < length text → is_space (slice_index text k) ≡ true

-- the text is a script, and this is the index in it: what stands from its first object up to the
-- semicolon at its end
pub record HasIndex (text index : Bytes) : Type 0 where
  pub start : ℕ
  pub end : ℕ
  pub is_end : IsEnd text end
  pub is_start : IsObjectStart (take end text) start
  pub value : index ≡ drop start (take end text)

-- it is the index in a script, or the text itself, which is no script
abbrev pub IsIndexIn : Bytes → Bytes → Type 0
IsIndexIn text index = HasIndex text index
    ⊎ ((index ≡ text) × ((other : Bytes) → ¬ HasIndex text other))
