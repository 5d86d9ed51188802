use Rattle.std.proofs.Common.{◌≡◌, take}
use Rattle.serde_json.specs.Data.{string}
use Rattle.serde_json.specs.View.{items_view}
use Rattle.elasticlunr_error.specs.Text.{bytes_of}
use Rattle.elasticlunr_piece_head.specs.Values.{items_of}
use Rattle.elasticlunr_piece_head.proofs.members.texts_of.Given as goal

-- the items so far
abbrev pub invariant-loop-item : goal.invariant-loop-item
invariant-loop-item l = items_view (take l.item-index l.items) ≡ items_of string (bytes_of l.texts.items)
