use Rattle.std.proofs.Common.{◌≡◌, List, ◌++◌}
use Rattle.std.specs.FinMap.{get}
use Rattle.serde_json.specs.Find.{get_member}
use Rattle.serde_json.specs.View.{members_view}
use Rattle.serde_json.proofs.Views.{Entry}
use Rattle.elasticlunr_error.specs.Text.{Bytes}
use Rattle.elasticlunr_store.specs.Options.{ReadsAt, field_map}
use Rattle.elasticlunr_store.proofs.config.read.read_fields.Given as goal

-- the options of each member that was read
abbrev pub invariant-loop-name : goal.invariant-loop-name
invariant-loop-name l =
    record {
      done : List Entry;
      split : done ++ l.name-iterator ≡ l.initial.name-iterator;
      each : (name : Bytes) → ReadsAt (get_member name (members_view done)) (get (field_map l.fields.entries) name);
    }
