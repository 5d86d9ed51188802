use Rattle.std.proofs.Common.{◌≡◌, List, ◌++◌}
use Rattle.std.specs.FinMap.{entries}
use Rattle.serde_json.specs.Data.{string}
use Rattle.serde_json.specs.View.{members_view}
use Rattle.serde_json.proofs.Views.{Entry}
use Rattle.elasticlunr_json.specs.Maps.{members}
use Rattle.elasticlunr_store.specs.Contents.{text_map}
use Rattle.elasticlunr_piece_search.proofs.texts.texts_of.Given as goal

-- an entry for each member that was read
abbrev pub invariant-loop-field : goal.invariant-loop-field
invariant-loop-field l = (done : List Entry) × (done ++ l.field-iterator ≡ l.initial.field-iterator)
    × (members_view done ≡ members string (entries (text_map l.texts.entries)))
