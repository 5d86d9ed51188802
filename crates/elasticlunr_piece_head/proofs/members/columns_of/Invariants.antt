use Rattle.std.proofs.Common.{◌≡◌, map, take}
use Rattle.serde_json.specs.View.{items_view}
use Rattle.elasticlunr_piece_head.specs.Values.{array_of, items_of, length_value}
use Rattle.elasticlunr_piece_head.proofs.members.columns_of.Given as goal

-- the items so far
abbrev pub invariant-loop-item : goal.invariant-loop-item
invariant-loop-item l = items_view (take l.item-index l.items) ≡ items_of (array_of length_value) (map (λ column. column.items) l.lengths.items)
