-- What a text is read as.
use Rattle.std.specs.Prelude.{◌≡◌, ℕ, List, Some, None}
use Rattle.elasticlunr.specs.Printed.{read_within}
use Rattle.serde_json.specs.Data.{Data}

-- a JSON reader reads the text as this value: `serde_json`, which goes 127 steps deep, or one that
-- goes deeper. All that read the text read one value.
abbrev pub ReadsAs : (text : List ℕ) → Data → Type 0
ReadsAs text v = (limit : ℕ) × (read_within limit text ≡ Some v)

-- no JSON reader reads the text, however deep it goes
abbrev pub IsNotJson : (text : List ℕ) → Type 0
IsNotJson text = (limit : ℕ) → read_within limit text ≡ None
