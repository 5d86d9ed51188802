-- Members for what may be absent; for private clauses.
use Rattle.std.specs.Prelude.{ℕ, List, Option, Some, None}
use Rattle.serde_json.specs.Data.{Data, Members, put}

-- the members with one more, if there is a value for it
abbrev pub put_part : List ℕ → Option Data → Members → Members
put_part key None members = members
put_part key (Some value) members = put key value members
