use Rattle.std.proofs.Common.{◌≡◌, List, ◌++◌, take}
use Rattle.serde_json.specs.View.{items_view, members_view}
use Rattle.serde_json.proofs.Views.{Entry}
use Rattle.elasticlunr_search.specs.Whole.{items_with_ones, members_with_ones}
use Rattle.elasticlunr_search.proofs.rounding.+round.Given as goal

abbrev pub invariant-round_items-loop-item : goal.invariant-round_items-loop-item
invariant-round_items-loop-item l = items_view l.rounded.items
    ≡ items_with_ones (items_view (take l.item-index l.item-items))

abbrev pub invariant-round_members-loop-key : goal.invariant-round_members-loop-key
invariant-round_members-loop-key l =
    (done : List Entry) × (l.members.entries ≡ done ++ l.key-iterator)
    × (members_view l.rounded.entries ≡ members_with_ones (members_view done))
