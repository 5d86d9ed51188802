use Rattle.std.proofs.Common.{◌≡◌, List, ◌++◌, String, Global}
use Rattle.serde_json.specs.View.{members_view}
use Rattle.elasticlunr_json.specs.Maps.{members}
use Rattle.elasticlunr_store.specs.Options.{field_value}
use Rattle.elasticlunr_store.specs.declared.config.SearchOptionsField.{SearchOptionsField}
use Rattle.elasticlunr_json.proofs.Sorted.{shown}
use Rattle.elasticlunr_store.proofs.config.value.fields_value.Given as goal

-- a member for each entry that was read
abbrev pub invariant-loop-name : goal.invariant-loop-name
invariant-loop-name l = (done : List (String Global × SearchOptionsField))
    × (done ++ l.name-iterator ≡ l.fields.entries)
    × (members_view l.members.entries ≡ members field_value (shown (λ field. field) done))
