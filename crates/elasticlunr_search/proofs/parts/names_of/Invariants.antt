use Rattle.std.proofs.Common.{◌≡◌, take}
use Rattle.serde_json.specs.View.{items_view}
use Rattle.elasticlunr_text.specs.Text.{bytes_of}
use Rattle.elasticlunr.specs.Printed.{texts}
use Rattle.elasticlunr_search.proofs.parts.names_of.Given as goal

-- the items so far are these names
abbrev pub invariant-loop-item : goal.invariant-loop-item
invariant-loop-item l = items_view (take l.item-index l.item-items) ≡ texts (bytes_of l.names.items)
