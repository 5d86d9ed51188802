-- The request of a line.
use Rattle.std.specs.Prelude.{◌≡◌, ℕ, List, codes}
use Rattle.serde_json.specs.Data.{Data, string, array, no_items, item}
use Rattle.elasticlunr_search.specs.declared.words.Join.{Join}
use Rattle.elasticlunr_search.specs.declared.words.Join.TheVariants.{Any, All}

-- how a join is written
abbrev pub join_text : Join → List ℕ
join_text Any = codes "any"
join_text All = codes "all"

-- the value is the array of this field, this query and this join
abbrev pub IsRequest : Data → List ℕ → List ℕ → Join → Type 0
IsRequest v field query join = v ≡ array
    (item (string field) (item (string query) (item (string (join_text join)) no_items)))

-- the value is no request
abbrev pub IsNoRequest : Data → Type 0
IsNoRequest v = (field query : List ℕ) (join : Join) → ¬ IsRequest v field query join
