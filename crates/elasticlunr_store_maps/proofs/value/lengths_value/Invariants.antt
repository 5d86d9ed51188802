use Rattle.std.proofs.Common.{◌≡◌, List, ◌++◌, String, Global, ℕ}
use Rattle.serde_json.specs.View.{members_view}
use Rattle.elasticlunr_json.specs.Maps.{members, count}
use Rattle.elasticlunr_json.proofs.Sorted.{shown}
use Rattle.elasticlunr_store_maps.proofs.value.lengths_value.Given as goal

-- a member for each entry that was read
abbrev pub invariant-loop-field : goal.invariant-loop-field
invariant-loop-field l = (done : List (String Global × ℕ)) × (done ++ l.field-iterator ≡ l.lengths.entries)
    × (members_view l.members.entries ≡ members count (shown (λ n. n) done))
