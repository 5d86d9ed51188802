use Rattle.std.proofs.Common.{◌≡◌, take}
use Rattle.serde_json.specs.View.{items_view}
use Rattle.elasticlunr_piece_head.specs.Values.{items_of, length_value}
use Rattle.elasticlunr_piece_head.proofs.members.lengths_of.Given as goal

-- the items so far
abbrev pub invariant-loop-item : goal.invariant-loop-item
invariant-loop-item l = items_view (take l.item-index l.items) ≡ items_of length_value l.lengths.items
